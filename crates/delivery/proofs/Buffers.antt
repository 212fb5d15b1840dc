-- Words written in front of a buffer, one after the other.
use mathlib.Core.Path.{◌≡◌, refl, sym, ap, ◌∙◌}
use mathlib.Core.List.{List, ◌∷◌, ◌++◌}
use Prim.Native.Nat.{ℕ, zero, suc, ◌+◌, ◌*◌, ◌≤◌, ◌<◌}
use native.Mathlib.Omega.{arith}
use lib.IntN.{ℤ, pos}
use lib.ListN.{length, take, drop, replicate, length-replicate, length-drop}
use lib.Seq.{drop-cons, ext_get_or, get_or-drop}
use Rattle.words.specs.Words.{zone_words, word}
use Rattle.words.proofs.Words.{codes_read}
use Rattle.list.specs.Slots.{list_at, Kept}
use Rattle.delivery.specs.Buffers.{room, words, fronted, zeroed, cleared}

-- ---- words behind the front

fronted_same : (us ws vs : List ℤ) → length vs ≡ length ws → ((k : ℕ) → length us ≤ k → word vs k ≡ word ws k) → fronted us vs ≡ fronted us ws
unfolding fronted
fronted_same us ws vs e f =
    ap (λ (l : List ℤ). us ++ l)
    (ext_get_or (pos 0) (drop (length us) vs) (drop (length us) ws) (simp length-drop (omega arith))
    (λ i l. get_or-drop (length us) vs i (pos 0) ∙ f (length us + i) (omega arith) ∙ sym (get_or-drop (length us) ws i (pos 0))))

-- words that were written among those that are cleared leave no trace
zeroed_kept : (n : ℕ) {size : ℕ} {ws vs : List ℤ} → Kept 0 size ws vs → size ≤ n → zeroed n vs ≡ zeroed n ws
unfolding zeroed
zeroed_kept n {ws = ws} {vs = vs} k h = fronted_same (replicate n (pos 0)) ws vs k.same_length (λ j l. k.above j (omega (arith, length-replicate n (pos 0))))

pub cleared_kept : {size : ℕ} {ws vs : List ℤ} → Kept 0 size ws vs → size ≤ room → cleared vs ≡ cleared ws
cleared_kept k h = zeroed_kept room k h

-- ---- words of another buffer

next : (ws : List ℤ) (a b : ℕ) → suc a ≡ b → a < length ws → drop a ws ≡ word ws a ∷ drop b ws
next ws a b e h = drop-cons ws a (pos 0) h ∙ ap (λ (k : ℕ). word ws a ∷ drop k ws) e

six : (ws : List ℤ) (a : ℕ) → a + 6 ≤ length ws
    → drop a ws ≡ word ws a ∷ word ws (a + 1) ∷ word ws (a + 2) ∷ word ws (a + 3) ∷ word ws (a + 4) ∷ word ws (a + 5) ∷ drop (a + 6) ws
six ws a h =
    let p = next ws a (a + 1) (omega arith) (omega arith) in
    let q = next ws (a + 1) (a + 2) (omega arith) (omega arith) in
    let r = next ws (a + 2) (a + 3) (omega arith) (omega arith) in
    let s = next ws (a + 3) (a + 4) (omega arith) (omega arith) in
    let t = next ws (a + 4) (a + 5) (omega arith) (omega arith) in
    let u = next ws (a + 5) (a + 6) (omega arith) (omega arith) in
    cc

-- the words of the zones of a list are those that hold it
pub words_at : (ws : List ℤ) (base n : ℕ) → base + n * zone_words ≤ length ws → words (list_at ws base n) ≡ take (n * zone_words) (drop base ws)
unfolding words list_at
words_at ws base zero h = refl
words_at ws base (suc n) h =
    let e : suc n * zone_words ≡ suc (suc (suc (suc (suc (suc (n * zone_words)))))) = omega arith in
    (λ i. codes_read ws base i ++ words_at ws (base + zone_words) n (omega arith) i)
    ∙ sym (ap (λ (l : List ℤ). take (suc (suc (suc (suc (suc (suc (n * zone_words))))))) l) (six ws base (omega arith)))
    ∙ ap (λ (k : ℕ). take k (drop base ws)) (sym e)
