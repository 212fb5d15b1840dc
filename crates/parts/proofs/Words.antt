-- One limit more, of the words of a zone.
use mathlib.Core.Path.{◌≡◌, refl, sym, ap, subst, ◌∙◌}
use mathlib.Core.Bool.{true, cond}
use mathlib.Core.List.{List, [], ◌∷◌}
use Prim.Native.Nat.{ℕ, zero, suc, ◌+◌, ◌<◌}
use native.Mathlib.Omega.{arith}
use lib.Bits.{bit_xor}
use lib.Dec.{T, T_not, eqb, eqb→eq}
use borrow.Author.Tests.{eq-eqb}
use lib.IntN.{ℤ, pos}
use lib.ListN.{length, set, drop}
use lib.Signed.{le_z}
use lib.Seq.{get_or-set_same, get_or-set_other}
use Rattle.limit.specs.declared.Limit.{Limit}
use Rattle.limit.specs.Limit.{◌≤ᴸ◌, lesser, broken, code, decode}
use Rattle.limit.proofs.Linear.{test}
use Rattle.limit.proofs.Coding.{decode_code, decode_order}
use Rattle.zone.specs.declared.Zone.{Zone}
use Rattle.zone.specs.Zone.{Side, on-start, on-nstart, on-end, on-nend, on-length, on-nlength, limit, opposite}
use Rattle.words.specs.Words.{word, zone_at}
use Rattle.parts.specs.Parts.{sides, side, place, of_limits, also, keeping, part, parts_on}
use Rattle.parts.proofs.Limits.{side_place, held}

-- what holds of the six places
each_place : (P : ℕ → Type 0) → P 0 → P 1 → P 2 → P 3 → P 4 → P 5 → (k : ℕ) → k < 6 → P k
each_place P a b c d e f zero h = a
each_place P a b c d e f (suc zero) h = b
each_place P a b c d e f (suc (suc zero)) h = c
each_place P a b c d e f (suc (suc (suc zero))) h = d
each_place P a b c d e f (suc (suc (suc (suc zero)))) h = e
each_place P a b c d e f (suc (suc (suc (suc (suc zero))))) h = f
each_place P a b c d e f (suc (suc (suc (suc (suc (suc k)))))) h = absurd (omega arith)

pub place_side : (k : ℕ) → k < 6 → place (side k) ≡ k
place_side = each_place (λ k. place (side k) ≡ k) refl refl refl refl refl refl

pub place_opposite : (k : ℕ) → k < 6 → place (opposite (side k)) < 6
place_opposite = each_place (λ k. place (opposite (side k)) < 6) (omega arith) (omega arith) (omega arith) (omega arith) (omega arith) (omega arith)

-- the parts from the k-th limit on
pub parts_next : (z w : Zone) (k : ℕ) → k < 6 → parts_on (drop k sides) z w ≡ part z w (side k) ∷ parts_on (drop (k + 1) sides) (keeping z w (side k)) w
unfolding parts_on
parts_next z w = each_place (λ k. parts_on (drop k sides) z w ≡ part z w (side k) ∷ parts_on (drop (k + 1) sides) (keeping z w (side k)) w) refl refl refl refl refl refl

pub parts_end : (z w : Zone) {k : ℕ} → k ≡ 6 → parts_on (drop k sides) z w ≡ []
unfolding parts_on
parts_end z w e = ap (λ (n : ℕ). parts_on (drop n sides) z w) e

-- a place is beside that of the opposite side
pub beside_is : (k : ℕ) → k < 6 → bit_xor k 1 ≡ place (opposite (side k))
beside_is = each_place (λ k. bit_xor k 1 ≡ place (opposite (side k))) refl refl refl refl refl refl

pub limit_word : (ws : List ℤ) (j : Side) → limit (zone_at ws 0) j ≡ decode (word ws (place j))
unfolding zone_at
limit_word ws on-start = refl
limit_word ws on-nstart = refl
limit_word ws on-end = refl
limit_word ws on-nend = refl
limit_word ws on-length = refl
limit_word ws on-nlength = refl

by_words : (ws : List ℤ) → zone_at ws 0 ≡ of_limits (λ j. decode (word ws (place j)))
unfolding zone_at of_limits
by_words ws = refl

-- a limit in place j, lowered or not
pub lowered : {A : Type 0} (j k : ℕ) (a b : A) → j ≡ k → cond (eqb j k) a b ≡ a
lowered j k a b e = ap (λ t. cond t a b) (eq-eqb j k e)

pub not_lowered : {A : Type 0} (j k : ℕ) (a b : A) → ¬ (j ≡ k) → cond (eqb j k) a b ≡ b
not_lowered j k a b n = test (eqb j k) (λ t. cond t a b ≡ b) (λ t. absurd (n (eqb→eq j k t))) (λ _. refl)

-- all six of them
pub also_by : (ws : List ℤ) (k : ℕ) → k < 6 → (l : Limit) {s ns e ne d nd : Limit}
    → s ≡ cond (eqb 0 k) (lesser (decode (word ws 0)) l) (decode (word ws 0)) → ns ≡ cond (eqb 1 k) (lesser (decode (word ws 1)) l) (decode (word ws 1))
    → e ≡ cond (eqb 2 k) (lesser (decode (word ws 2)) l) (decode (word ws 2)) → ne ≡ cond (eqb 3 k) (lesser (decode (word ws 3)) l) (decode (word ws 3))
    → d ≡ cond (eqb 4 k) (lesser (decode (word ws 4)) l) (decode (word ws 4)) → nd ≡ cond (eqb 5 k) (lesser (decode (word ws 5)) l) (decode (word ws 5))
    → ◌≡◌ {A = Zone} (record { start = s; nstart = ns; end = e; nend = ne; length = d; nlength = nd }) (also (zone_at ws 0) (side k) l)
unfolding also of_limits zone_at
also_by ws k h l p0 p1 p2 p3 p4 p5 =
    λ i. record { start = (p0 ∙ at 0) i; nstart = (p1 ∙ at 1) i; end = (p2 ∙ at 2) i; nend = (p3 ∙ at 3) i; length = (p4 ∙ at 4) i; nlength = (p5 ∙ at 5) i }
  where
    at : (j : ℕ) → cond (eqb j k) (lesser (decode (word ws j)) l) (decode (word ws j)) ≡ cond (eqb j (place (side k))) (lesser (decode (word ws j)) l) (decode (word ws j))
    at j = ap (λ (m : ℕ). cond (eqb j m) (lesser (decode (word ws j)) l) (decode (word ws j))) (sym (place_side k h))

-- the word of the lesser limit, stored in its place
pub limited_words : (ws : List ℤ) (k : Side) (l : Limit) {v : ℤ} → length ws ≡ 6 → v ≡ code (lesser (decode (word ws (place k))) l) → zone_at (set ws (place k) v) 0 ≡ also (zone_at ws 0) k l
unfolding also
limited_words ws k l {v} n e = by_words (set ws (place k) v) ∙ (λ i. of_limits (λ j. at j i))
  where
    fits : (j : Side) → place j < 6
    fits on-start = omega arith
    fits on-nstart = omega arith
    fits on-end = omega arith
    fits on-nend = omega arith
    fits on-length = omega arith
    fits on-nlength = omega arith

    at : (j : Side) → decode (word (set ws (place k) v) (place j)) ≡ held (zone_at ws 0) k l j
    at j =
        test (eqb (place j) (place k)) (λ b. decode (word (set ws (place k) v) (place j)) ≡ cond b (lesser (limit (zone_at ws 0) j) l) (limit (zone_at ws 0) j))
        (λ t. let p = eqb→eq (place j) (place k) t in
        ap (λ (m : ℕ). decode (word (set ws (place k) v) m)) p
        ∙ ap decode (get_or-set_same ws (place k) v (pos 0) (omega (arith, n, fits k)) ∙ e) ∙ decode_code _
        ∙ ap (λ (m : ℕ). lesser (decode (word ws m)) l) (sym p) ∙ ap (λ (m : Limit). lesser m l) (sym (limit_word ws j)))
        (λ f. ap decode (get_or-set_other ws (place k) (place j) v (pos 0) (λ p. T_not (eqb (place j) (place k)) f (subst T (sym (eq-eqb (place j) (place k) p)) tt))) ∙ sym (limit_word ws j))

-- the same by the place of a side

module _ (ws : List ℤ) (k : ℕ) (h : k < 6) where
  pub limit_at : limit (zone_at ws 0) (side k) ≡ decode (word ws k)
  limit_at = limit_word ws (side k) ∙ ap (λ (m : ℕ). decode (word ws m)) (place_side k h)

  -- the one beside it is that of the opposite side
  pub limit_beside : {j : ℕ} → j ≡ place (opposite (side k)) → limit (zone_at ws 0) (opposite (side k)) ≡ decode (word ws j)
  limit_beside e = limit_word ws (opposite (side k)) ∙ ap (λ (m : ℕ). decode (word ws m)) (sym e)

  pub limited_at : (l : Limit) {v : ℤ} → length ws ≡ 6 → v ≡ code (lesser (decode (word ws k)) l) → zone_at (set ws k v) 0 ≡ also (zone_at ws 0) (side k) l
  limited_at l {v} n = subst (λ (m : ℕ). v ≡ code (lesser (decode (word ws m)) l) → zone_at (set ws m v) 0 ≡ also (zone_at ws 0) (side k) l) (place_side k h) (limited_words ws (side k) l n)

  -- a word that is no greater is that of a limit no higher
  pub no_higher : (vs : List ℤ) → le_z (word ws k) (word vs k) ≡ true → limit (zone_at ws 0) (side k) ≤ᴸ limit (zone_at vs 0) (side k)
  no_higher vs e = rw (limit_at, limit_word vs (side k), place_side k h) (record { le = subst T (sym (decode_order (word ws k) (word vs k) ∙ e)) tt })

  -- the broken limit of another zone, on the opposite side
  pub broken_at : (vs : List ℤ) {j : ℕ} {v : ℤ} {u : Zone} → j ≡ place (opposite (side k)) → v ≡ code (broken (decode (word ws k))) → u ≡ also (zone_at vs 0) (side j) (decode v) → u ≡ also (zone_at vs 0) (opposite (side k)) (broken (limit (zone_at ws 0) (side k)))
  broken_at vs p q e = e ∙ (λ i. also (zone_at vs 0) ((ap side p ∙ side_place (opposite (side k))) i) ((ap decode q ∙ decode_code _ ∙ ap broken (sym limit_at)) i))
