-- Limits that are broken: whether a difference keeps to a limit is decided, and where it does not, the negated difference keeps to the broken limit.
use mathlib.Core.Path.{◌≡◌, refl, sym, ap, subst, ◌∙◌}
use mathlib.Core.Logic.{◌↔◌}
use Prim.Native.Nat.{ℕ, ◌+◌, ◌*◌, ◌≤◌}
use native.Mathlib.Decide.{dec_le}
use native.Mathlib.Omega.{arith}
use lib.IntN.{ℤ, pos, neg_ℤ, ◌+ℤ◌, ◌-ℤ◌, ◌*ℤ◌}
use mir.Syntax.{w32}
use mir.Val.{SFits, to_z, of_z}
use Rattle.signed.proofs.Integers.{arithZ, sum, diff, times, neg, size}
use Rattle.signed.proofs.Machine.{back, fits_by}
use Rattle.limit.specs.Time.{Time}
use Rattle.limit.specs.Limit.{Limit, AtMost, Below, Within, ◌≤ᴸ◌, ◌⊕◌, nought, broken, IsBroken, value, Small, most_sum, code, decode}
use Rattle.limit.proofs.Linear.{up, dn, un, le_lin, sum_ud, nought_up, nought_dn, nought_un, within_lin}
use Rattle.limit.proofs.Coding.{code_decode, decode_code}
use Rattle.limit.proofs.Signed.{word_small}

pub broken_lin : (m : Limit) → (up (broken m) ≡ dn m) × (dn (broken m) ≡ up m) × (un (broken m) + un m ≡ 1)
unfolding up dn un broken
broken_lin (AtMost v) = ((neg v).0, (neg v).1, refl)
broken_lin (Below v) = ((neg v).0, (neg v).1, refl)

-- a comparison of whole numbers
pub within? : (l : Limit) (x y : Time) → Dec (Within l x y)
within? l x y = go (dec_le (x.num * y.den + dn l * (x.den * y.den) + un l) (y.num * x.den + up l * (x.den * y.den)))
  where
    go : Dec (x.num * y.den + dn l * (x.den * y.den) + un l ≤ y.num * x.den + up l * (x.den * y.den)) → Dec (Within l x y)
    go (yes h) = yes ((within_lin l x y).1 h)
    go (no h) = no (λ k. h ((within_lin l x y).0 k))

-- y − x keeps to the broken limit exactly where x − y breaks the limit
pub broken_is : (m : Limit) (x y : Time) → Within (broken m) y x ↔ ¬ Within m x y
broken_is m x y =
    let a : up (broken m) * (y.den * x.den) ≡ dn m * (x.den * y.den) = rw (broken_lin m).0 (omega arith) in
    let b : dn (broken m) * (y.den * x.den) ≡ up m * (x.den * y.den) = rw (broken_lin m).1 (omega arith) in (
      λ h k. omega (arith, (broken_lin m).2, (within_lin m x y).0 k, (within_lin (broken m) y x).0 h),
      λ n. (within_lin (broken m) y x).1
          (let g : ¬ (x.num * y.den + dn m * (x.den * y.den) + un m ≤ y.num * x.den + up m * (x.den * y.den)) = λ k. n ((within_lin m x y).1 k) in
          omega (arith, (broken_lin m).2)),
    )

-- ---- for the machine's numbers

-- a limit that leaves room beside a small one is small when it is broken (any small limit is not: −(n + 1) is within n of 0, and n + 1 is not)
pub small_broken : (l m : Limit) {n : ℕ} → nought ≤ᴸ l ⊕ m → Small n l → Small n m → Small n (broken l)
unfolding up dn broken
small_broken (AtMost v) m h a b = omega (arith, size v, size (neg_ℤ v), neg v, size (value m), le_lin h, sum_ud (AtMost v) m, nought_up, nought_dn, nought_un)
small_broken (Below v) m h a b = omega (arith, size v, size (neg_ℤ v), neg v, size (value m), le_lin h, sum_ud (Below v) m, nought_up, nought_dn, nought_un)

-- the word of a broken limit is 1 − the limit's word
pub code_broken : (l : Limit) → code (broken l) ≡ pos 1 -ℤ code l
unfolding broken
code_broken (AtMost v) = omega (arithZ, neg v, times (neg_ℤ v) 2, times v 2, sum (v *ℤ pos 2) (pos 1), diff (pos 1) (v *ℤ pos 2 +ℤ pos 1))
code_broken (Below v) = omega (arithZ, neg v, times (neg_ℤ v) 2, times v 2, sum (neg_ℤ v *ℤ pos 2) (pos 1), diff (pos 1) (v *ℤ pos 2))

-- the machine's difference
module _ (w : ℤ) (f : SFits w32 w) (h : Small most_sum (decode w)) where
  word : SFits w32 (pos 1 -ℤ w)
  word = fits_by (omega (arithZ, diff (pos 1) w, size w, size (pos 1 -ℤ w), word_small w h))

  pub broken_word : to_z w32 (of_z w32 (pos 1 -ℤ to_z w32 (of_z w32 w))) ≡ code (broken (decode w))
  broken_word = rw (back f) (back word ∙ ap (λ (x : ℤ). pos 1 -ℤ x) (sym (code_decode w)) ∙ sym (code_broken (decode w)))

-- what it means
pub broken_means : (l : Limit) {r : ℤ} → r ≡ code (broken l) → IsBroken l (decode r)
broken_means l e = subst (IsBroken l) (sym (ap decode e ∙ decode_code (broken l))) (record { within = broken_is l })
