-- The text of an integer, by its sign.
use mathlib.Core.Path.{◌≡◌, refl}
use mathlib.Core.Bool.{true, false}
use mathlib.Core.List.{[], ◌∷◌, ◌++◌}
use lib.IntN.{ℤ, pos, negsuc, nat_abs}
use lib.Signed.{lt_z}
use Rattle.signed.proofs.Integers.{arithZ, lt_z_true, lt_z_false}
use Rattle.text.specs.Decimal.{decimal, integer}

pub integer_below : (v : ℤ) → lt_z v (pos 0) ≡ true → integer v ≡ (45 ∷ []) ++ decimal (nat_abs v)
unfolding integer
integer_below (pos n) h = absurd (omega (arithZ, lt_z_true (pos n) (pos 0) h))
integer_below (negsuc n) h = refl

pub integer_plain : (v : ℤ) → lt_z v (pos 0) ≡ false → integer v ≡ decimal (nat_abs v)
unfolding integer
integer_plain (pos n) h = refl
integer_plain (negsuc n) h = absurd (omega (arithZ, lt_z_false (negsuc n) (pos 0) h))
