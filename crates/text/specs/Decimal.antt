-- Numbers in decimal, as bytes: 45 is `-`, and 48 to 57 are `0` to `9`.
use Rattle.std.specs.Prelude.{cond, List, [], ◌∷◌, reverse, ℕ, zero, suc, ltb, ℤ, pos, negsuc}

-- the digits of the next number, both with the last digit first: a 9 turns to 0 and carries
unfoldable pub next : List ℕ → List ℕ
next [] = 49 ∷ []
next (d ∷ ds) = cond (ltb d 57) (suc d ∷ ds) (48 ∷ next ds)

-- the digits of n with the last one first, counted up from 0
unfoldable pub counted : ℕ → List ℕ
counted zero = 48 ∷ []
counted (suc n) = next (counted n)

-- n in decimal
unfoldable pub decimal : ℕ → List ℕ
decimal n = reverse (counted n)

-- a signed number in decimal; `negsuc n` is −(n + 1)
unfoldable pub integer : ℤ → List ℕ
integer (pos n) = decimal n
integer (negsuc n) = 45 ∷ decimal (suc n)
