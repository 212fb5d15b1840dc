-- Hulls that grow zone by zone, and block by block.
use mathlib.Core.Path.{◌≡◌, sym, ap, subst, ◌∙◌}
use mathlib.Core.Logic.{◌⊎◌, inl, inr}
use mathlib.Core.List.Memᴰ.{append_cases}
use mathlib.Core.List.Memᴰ.{eq_of_singleton}
use mathlib.Core.List.Memᴰ.{not-nil}
use mathlib.Core.List.{List, [], ◌∷◌, Memᴰ}
use Prim.Native.Nat.{ℕ, ◌+◌, ◌*◌, ◌≤◌, ◌<◌}
use native.Mathlib.Omega.{arith}
use native.Mathlib.Numerals.{add-one}
use lib.IntN.{ℤ, pos}
use lib.ListN.{length, set, length-set}
use lib.Seq.{get_or-set_same, get_or-set_other}
use Rattle.limit.specs.Limit.{code, decode, greater}
use Rattle.limit.proofs.Coding.{decode_code}
use Rattle.limit.proofs.Order.{≤_trans, greater_l, greater_r}
use Rattle.words.specs.Words.{word, zone_at}
use Rattle.list.specs.Slots.{list_at}
use Rattle.list.proofs.Slots.{below_or_not, list_at_snoc}
use Rattle.hulls.specs.Hulls.{Under, Covers, block}

pub covers_none : (start nstart : ℤ) (ws : List ℤ) (at : ℕ) → Covers start nstart (list_at ws at 0)
unfolding list_at
covers_none start nstart ws at z m = absurd (not-nil m)

-- one zone more
pub covers_more : (s n s' n' : ℤ) (ws : List ℤ) (at j : ℕ) → Covers s n (list_at ws at j) → s' ≡ code (greater (decode s) (decode (word ws (at + j * 6)))) → n' ≡ code (greater (decode n) (decode (word ws (at + j * 6 + 1)))) → Covers s' n' (list_at ws at (j + 1))
unfolding zone_at
covers_more s n s' n' ws at j c e f z m = go (append_cases (list_at ws at j) (subst (Memᴰ z) (ap (list_at ws at) (add-one j) ∙ list_at_snoc ws at j) m))
  where
    p : decode s' ≡ greater (decode s) (decode (word ws (at + j * 6)))
    p = ap decode e ∙ decode_code _

    q : decode n' ≡ greater (decode n) (decode (word ws (at + j * 6 + 1)))
    q = ap decode f ∙ decode_code _

    last : Under s' n' (zone_at ws (at + j * 6))
    last = record { start = rw p (greater_r _ _); nstart = rw q (greater_r _ _) }

    go : Memᴰ z (list_at ws at j) ⊎ Memᴰ z (zone_at ws (at + j * 6) ∷ []) → Under s' n' z
    go (inl k) = let u = c z k in record { start = rw p (≤_trans u.start (greater_l _ _)); nstart = rw q (≤_trans u.nstart (greater_l _ _)) }
    go (inr k) = subst (Under s' n') (sym (eq_of_singleton k)) last

-- the hulls of the first b blocks
abbrev pub Written : List ℤ → List ℤ → ℕ → ℕ → ℕ → Type 0
Written hs ws base n b = (a : ℕ) → a < b → a * 16 < n → Covers (word hs (a * 2)) (word hs (a * 2 + 1)) (block ws base n a)

-- one block more
pub written_more : (hs ws : List ℤ) (base n b : ℕ) (s ns : ℤ) → b * 2 + 1 < length hs → Written hs ws base n b → Covers s ns (block ws base n b) → Written (set (set hs (b * 2) s) (b * 2 + 1) ns) ws base n (b + 1)
written_more hs ws base n b s ns room w c a h k = go (below_or_not a b)
  where
    before : (i : ℕ) → i < b * 2 → word (set (set hs (b * 2) s) (b * 2 + 1) ns) i ≡ word hs i
    before i l = get_or-set_other (set hs (b * 2) s) (b * 2 + 1) i ns (pos 0) (λ e. omega arith) ∙ get_or-set_other hs (b * 2) i s (pos 0) (λ e. omega arith)

    go : (a < b) ⊎ (b ≤ a) → Covers (word (set (set hs (b * 2) s) (b * 2 + 1) ns) (a * 2)) (word (set (set hs (b * 2) s) (b * 2 + 1) ns) (a * 2 + 1)) (block ws base n a)
    go (inl l) = rw (before (a * 2) (omega arith), before (a * 2 + 1) (omega arith)) (w a l k)
    go (inr l) =
        let e : a ≡ b = omega arith in
        let p : word (set (set hs (b * 2) s) (b * 2 + 1) ns) (b * 2) ≡ s = get_or-set_other (set hs (b * 2) s) (b * 2 + 1) (b * 2) ns (pos 0) (λ q. omega arith) ∙ get_or-set_same hs (b * 2) s (pos 0) (omega arith) in
        let q : word (set (set hs (b * 2) s) (b * 2 + 1) ns) (b * 2 + 1) ≡ ns = get_or-set_same (set hs (b * 2) s) (b * 2 + 1) ns (pos 0) (simp length-set room) in
        rw (e, p, q) c
