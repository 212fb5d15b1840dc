-- Limits as linear statements about natural numbers, the form that omega reads: the number of l is up l − dn l, and un l is 1 where l is
-- not reached. Nothing above this file looks at a limit's number in another way.
use mathlib.Core.Path.{◌≡◌, refl}
use mathlib.Core.Bool.{Bool, true, false, not}
use mathlib.Core.Logic.{◌↔◌}
use Prim.Native.Nat.{ℕ, ◌+◌, ◌*◌, ◌≤◌, max, min}
use native.Mathlib.Omega.{arith}
use lib.Dec.{T}
use lib.IntN.{pos, ◌+ℤ◌}
use Rattle.signed.proofs.Integers.{arithZ, sum, diff, times, apart}
use Rattle.signed.proofs.Integers as Z
use Rattle.limit.specs.Time.{Time}
use Rattle.limit.specs.Limit.{Limit, AtMost, Below, Within, value, ◌≤ᴸ◌, ◌⊕◌, nought}

unfoldable pub up : Limit → ℕ
up l = Z.up (value l)

unfoldable pub dn : Limit → ℕ
dn l = Z.dn (value l)

unfoldable pub un : Limit → ℕ
un (AtMost v) = 0
un (Below v) = 1

pub un_le : (l : Limit) → un l ≤ 1
unfolding un
un_le (AtMost v) = omega arith
un_le (Below v) = omega arith

pub one_side : (l : Limit) → min (up l) (dn l) ≡ 0
unfolding up dn
one_side l = apart (value l)

-- a test taken apart
pub test : (b : Bool) (P : Bool → Type 0) → (T b → P true) → (T (not b) → P false) → P b
test true P f g = f tt
test false P f g = g tt

-- ---- the order, as that of the codes 2 × v − un

pub le_lin : {l m : Limit} → l ≤ᴸ m → 2 * up l + 2 * dn m + un m ≤ 2 * up m + 2 * dn l + un l
unfolding up dn un
le_lin {l = AtMost a} {m = AtMost b} h = omega (arithZ, h.le)
le_lin {l = AtMost a} {m = Below b} h = omega (arithZ, h.le)
le_lin {l = Below a} {m = AtMost b} h = omega (arithZ, h.le)
le_lin {l = Below a} {m = Below b} h = omega (arithZ, h.le)

pub lin_le : {l m : Limit} → 2 * up l + 2 * dn m + un m ≤ 2 * up m + 2 * dn l + un l → l ≤ᴸ m
unfolding up dn un
lin_le {l = AtMost a} {m = AtMost b} h = record { le = omega arithZ }
lin_le {l = AtMost a} {m = Below b} h = record { le = omega arithZ }
lin_le {l = Below a} {m = AtMost b} h = record { le = omega arithZ }
lin_le {l = Below a} {m = Below b} h = record { le = omega arithZ }

-- ---- the sum

pub sum_value : (l m : Limit) → value (l ⊕ m) ≡ value l +ℤ value m
unfolding ◌⊕◌
sum_value (AtMost a) (AtMost b) = refl
sum_value (AtMost a) (Below b) = refl
sum_value (Below a) (AtMost b) = refl
sum_value (Below a) (Below b) = refl

pub sum_ud : (l m : Limit) → up (l ⊕ m) + dn l + dn m ≡ up l + up m + dn (l ⊕ m)
unfolding up dn
sum_ud l m = rw (sum_value l m) (omega (arith, sum (value l) (value m)))

pub sum_un : (l m : Limit) → un (l ⊕ m) ≡ max (un l) (un m)
unfolding un ◌⊕◌
sum_un (AtMost a) (AtMost b) = refl
sum_un (AtMost a) (Below b) = refl
sum_un (Below a) (AtMost b) = refl
sum_un (Below a) (Below b) = refl

pub nought_up : up nought ≡ 0
unfolding up
nought_up = refl

pub nought_dn : dn nought ≡ 0
unfolding dn
nought_dn = refl

pub nought_un : un nought ≡ 0
unfolding un
nought_un = refl

-- ---- what a limit says of two times

pub within_lin : (l : Limit) (x y : Time) → Within l x y ↔ (x.num * y.den + dn l * (x.den * y.den) + un l ≤ y.num * x.den + up l * (x.den * y.den))
unfolding Within up dn un
within_lin (AtMost v) x y =
    let k = x.den * y.den in
    let a = x.num * y.den in
    let b = y.num * x.den in
    (λ h. omega (arithZ, h, diff (pos a) (pos b), times v k), λ h. omega (arithZ, diff (pos a) (pos b), times v k))
within_lin (Below v) x y =
    let k = x.den * y.den in
    let a = x.num * y.den in
    let b = y.num * x.den in
    (λ h. omega (arithZ, h, diff (pos a) (pos b), times v k), λ h. omega (arithZ, diff (pos a) (pos b), times v k))
