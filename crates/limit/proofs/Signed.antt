-- What the machine's numbers hold in the functions on limits.
use mathlib.Core.Path.{◌≡◌, sym, ap, subst, ◌∙◌}
use Prim.Native.Nat.{◌≤◌}
use native.Mathlib.Omega.{arith}
use lib.IntN.{ℤ, pos, ◌+ℤ◌, ◌-ℤ◌, ◌*ℤ◌}
use lib.Signed.{mag, shr_z, mag_shr, le_z}
use mir.Syntax.{w32}
use mir.Val.{SFits, to_z, of_z}
use mir.ValLaws.{sfits_le}
use Rattle.signed.proofs.Integers.{arithZ, sum, diff, size, half, times}
use Rattle.signed.proofs.Machine.{back, fits_by}
use Rattle.limit.specs.Limit.{Limit, AtMost, Below, Small, most_sum, at_most, lesser, ◌⊕◌, nought, code, decode}
use Rattle.limit.proofs.Coding.{decode_code, code_decode, room_beside, excess_odd, excess_even}

-- what a call gave, kept in a local
pub read_back : {r x : ℤ} → SFits w32 r → r ≡ x → to_z w32 (of_z w32 r) ≡ x
read_back f e = back f ∙ e

-- the number of a word
module _ {w : ℤ} (f : SFits w32 w) where
  half_is : to_z w32 (of_z w32 (shr_z (to_z w32 (of_z w32 w)) 2)) ≡ shr_z w 2
  half_is = rw (back f) (back (sfits_le (mag_shr w 2) f))

  whole : SFits w32 (shr_z w 2 *ℤ pos 2)
  whole = fits_by (omega (arithZ, times (shr_z w 2) 2, half w, size w, size (shr_z w 2 *ℤ pos 2), f.sfits))

  whole_is : to_z w32 (of_z w32 (to_z w32 (of_z w32 (shr_z (to_z w32 (of_z w32 w)) 2)) *ℤ pos 2)) ≡ shr_z w 2 *ℤ pos 2
  whole_is = rw half_is (back whole)

  -- the test is of the bits
  same_whole : of_z w32 (to_z w32 (of_z w32 (shr_z (to_z w32 (of_z w32 w)) 2)) *ℤ pos 2) ≡ of_z w32 w → shr_z w 2 *ℤ pos 2 ≡ w
  same_whole t = sym whole_is ∙ ap (to_z w32) t ∙ back f

-- two words, and room between their limits
code_small : (l : Limit) → Small most_sum l → mag (code l) ≤ 8_000_001
code_small (AtMost v) h = omega (arithZ, times v 2, sum (v *ℤ pos 2) (pos 1), size v, size (v *ℤ pos 2 +ℤ pos 1))
code_small (Below v) h = omega (arithZ, times v 2, size v, size (v *ℤ pos 2))

module _ (m : Limit) {y : ℤ} (f : SFits w32 y) (q : y ≡ code m) (h : Small most_sum m) where
  rest : SFits w32 (pos 2 -ℤ y)
  rest = rw q (fits_by (omega (arithZ, diff (pos 2) (code m), size (code m), size (pos 2 -ℤ code m), code_small m h)))

  pub room_is : (l : Limit) {x : ℤ} → SFits w32 x → x ≡ code l → le_z (to_z w32 (of_z w32 (pos 2 -ℤ to_z w32 (of_z w32 y)))) (to_z w32 (of_z w32 x)) ≡ at_most nought (l ⊕ m)
  room_is l g p = rw (back g, back f, back rest, p, q) (room_beside l m)

-- a word of a limit in range
pub word_small : (a : ℤ) → Small most_sum (decode a) → mag a ≤ 8_000_001
word_small a h = subst (λ (x : ℤ). mag x ≤ 8_000_001) (code_decode a) (code_small (decode a) h)

-- what the sum of two words has too much
module _ {a b : ℤ} (f : SFits w32 a) (g : SFits w32 b) where
  pub odd_is : ¬ (of_z w32 (to_z w32 (of_z w32 (shr_z (to_z w32 (of_z w32 a)) 2)) *ℤ pos 2) ≡ of_z w32 a) → pos 1 ≡ (a +ℤ b) -ℤ code (decode a ⊕ decode b)
  odd_is n = excess_odd a b (λ e. n (rw (half_is f, e)))

  parity_small : mag (b -ℤ shr_z b 2 *ℤ pos 2) ≤ 1
  parity_small = omega (arithZ, half b, times (shr_z b 2) 2, diff b (shr_z b 2 *ℤ pos 2), size (b -ℤ shr_z b 2 *ℤ pos 2))

  parity : SFits w32 (b -ℤ shr_z b 2 *ℤ pos 2)
  parity = fits_by (omega (arith, parity_small))

  parity_is : to_z w32 (of_z w32 (to_z w32 (of_z w32 b) -ℤ to_z w32 (of_z w32 (to_z w32 (of_z w32 (shr_z (to_z w32 (of_z w32 b)) 2)) *ℤ pos 2)))) ≡ b -ℤ shr_z b 2 *ℤ pos 2
  parity_is = rw (whole_is g, back g) (back parity)

  pub even_is : of_z w32 (to_z w32 (of_z w32 (shr_z (to_z w32 (of_z w32 a)) 2)) *ℤ pos 2) ≡ of_z w32 a → let r = to_z w32 (of_z w32 (to_z w32 (of_z w32 b) -ℤ to_z w32 (of_z w32 (to_z w32 (of_z w32 (shr_z (to_z w32 (of_z w32 b)) 2)) *ℤ pos 2)))) in (r ≡ (a +ℤ b) -ℤ code (decode a ⊕ decode b)) × (mag r ≤ 1)
  even_is t = rw parity_is (excess_even a b (same_whole f t), parity_small)

-- the sum of two words, less what it has too much
module _ {a b : ℤ} (f : SFits w32 a) (g : SFits w32 b) (p : Small most_sum (decode a)) (q : Small most_sum (decode b)) where
  total_small : mag (a +ℤ b) ≤ 16_000_003
  total_small = omega (arithZ, sum a b, size a, size b, size (a +ℤ b), word_small a p, word_small b q)

  total : SFits w32 (a +ℤ b)
  total = fits_by (omega (arith, total_small))

  total_is : to_z w32 (of_z w32 (to_z w32 (of_z w32 a) +ℤ to_z w32 (of_z w32 b))) ≡ a +ℤ b
  total_is = rw (back f, back g) (back total)

  less : (r : ℤ) → mag r ≤ 1 → SFits w32 ((a +ℤ b) -ℤ r)
  less r s = fits_by (omega (arithZ, diff (a +ℤ b) r, size (a +ℤ b), size r, size ((a +ℤ b) -ℤ r), total_small, s))

  pub less_fits : (r : ℤ) → SFits w32 r → mag r ≤ 1 → SFits w32 (to_z w32 (of_z w32 (to_z w32 (of_z w32 a) +ℤ to_z w32 (of_z w32 b))) -ℤ to_z w32 (of_z w32 r))
  less_fits r k s = rw (total_is, back k) (less r s)

  pub sum_is : (r : ℤ) → SFits w32 r → mag r ≤ 1 → r ≡ (to_z w32 (of_z w32 a) +ℤ to_z w32 (of_z w32 b)) -ℤ code (decode (to_z w32 (of_z w32 a)) ⊕ decode (to_z w32 (of_z w32 b)))
      → to_z w32 (of_z w32 (to_z w32 (of_z w32 (to_z w32 (of_z w32 a) +ℤ to_z w32 (of_z w32 b))) -ℤ to_z w32 (of_z w32 r))) ≡ code (decode a ⊕ decode b)
  sum_is r k s e = rw (total_is, back k) (back (less r s) ∙ omega (arithZ, rw (back f, back g) at e, sum a b, diff (a +ℤ b) r, diff (a +ℤ b) (code (decode a ⊕ decode b))))

-- what two calls on words kept in locals gave, kept in a local
pub or_sum_is : {a b c s r : ℤ} → SFits w32 a → SFits w32 b → SFits w32 c → SFits w32 s → SFits w32 r → s ≡ code (decode (to_z w32 (of_z w32 b)) ⊕ decode (to_z w32 (of_z w32 c)))
    → r ≡ code (lesser (decode (to_z w32 (of_z w32 a))) (decode (to_z w32 (of_z w32 s)))) → to_z w32 (of_z w32 r) ≡ code (lesser (decode a) (decode b ⊕ decode c))
or_sum_is {a} {b} {c} fa fb fc fs fr p q = back fr ∙ q ∙ rw (back fa, back fs, p, back fb, back fc, decode_code (decode b ⊕ decode c))

-- the words of limits, kept in locals, and what is computed of them
word_kept : {x : ℤ} (l : Limit) → SFits w32 x → x ≡ code l → decode (to_z w32 (of_z w32 x)) ≡ l
word_kept l f e = ap decode (read_back f e) ∙ decode_code l

pub both_kept : (f : Limit → Limit → Limit) (l m : Limit) {x y r : ℤ} → SFits w32 x → SFits w32 y → SFits w32 r → x ≡ code l → y ≡ code m → r ≡ code (f (decode (to_z w32 (of_z w32 x))) (decode (to_z w32 (of_z w32 y)))) → decode (to_z w32 (of_z w32 r)) ≡ f l m
both_kept f l m a b c p q e = word_kept (f l m) c (e ∙ rw (word_kept l a p, word_kept m b q))

pub or_sum_kept : (l a b : Limit) {x y z r : ℤ} → SFits w32 x → SFits w32 y → SFits w32 z → SFits w32 r → x ≡ code l → y ≡ code a → z ≡ code b
    → r ≡ code (lesser (decode (to_z w32 (of_z w32 x))) (decode (to_z w32 (of_z w32 y)) ⊕ decode (to_z w32 (of_z w32 z)))) → decode (to_z w32 (of_z w32 r)) ≡ lesser l (a ⊕ b)
or_sum_kept l a b f g h k p q s e = word_kept (lesser l (a ⊕ b)) k (e ∙ rw (word_kept l f p, word_kept a g q, word_kept b h s))
