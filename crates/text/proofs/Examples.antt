-- Worked examples, computed from a number to its bytes.
use mathlib.Core.Path.{◌≡◌, refl}
use lib.IntN.{pos, neg_ℤ}
use Rattle.text.specs.Text.{ascii}
use Rattle.text.specs.Decimal.{next, counted, decimal, integer}

pub numbers : (decimal 109 ≡ ascii "109") × (decimal 1000 ≡ ascii "1000") × (integer (neg_ℤ (pos 70)) ≡ ascii "-70") × (integer (neg_ℤ (pos 0)) ≡ ascii "0")
unfolding integer decimal counted next
numbers = (refl, refl, refl, refl)
