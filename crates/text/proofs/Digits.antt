-- Numbers in decimal, digit by digit, and how many digits they have.
use mathlib.Core.Path.{◌≡◌, refl, sym, ap, ◌∙◌}
use mathlib.Core.Bool.{Bool, true, false}
use mathlib.Core.List.{List, [], ◌∷◌, ◌++◌, reverse, reverse-cons}
use Prim.Native.Nat.{ℕ, zero, suc, ◌+◌, ◌*◌, ◌/◌, ◌%◌, ◌^◌, ◌≤◌, ◌<◌}
use native.Mathlib.Nat.{add-zero, add-suc, div-add-mod', pow-zero, pow-suc}
use native.Mathlib.Omega.{arith}
use lib.Dec.{ltb}
use lib.ListN.{length, length-append}
use borrow.Author.Tests.{lt-ltb, ltb-true, ltb-false}
use Rattle.text.specs.Decimal.{next, counted, decimal}

-- a digit below 9 goes up
next_up : (d : ℕ) (ds : List ℕ) → d < 57 → next (d ∷ ds) ≡ suc d ∷ ds
unfolding next
next_up d ds h = rw (lt-ltb d 57 h)

counted_digit : (d : ℕ) → d < 10 → counted d ≡ (48 + d) ∷ []
unfolding counted
counted_digit zero h = refl
counted_digit (suc d) h =
    let e : suc (48 + d) ≡ 48 + suc d = omega arith in
    rw (counted_digit d (omega arith), next_up (48 + d) [] (omega arith), e)

-- from ten times a number on, its digits stand before the last
counted_on : (q d : ℕ) (ds : List ℕ) → counted (q * 10) ≡ 48 ∷ ds → d < 10 → counted (q * 10 + d) ≡ (48 + d) ∷ ds
unfolding counted
counted_on q zero ds e h = rw add-zero e
counted_on q (suc d) ds e h =
    let s : suc (48 + d) ≡ 48 + suc d = omega arith in
    rw (add-suc, counted_on q d ds e (omega arith), next_up (48 + d) ds (omega arith), s)

counted_tens : (q : ℕ) → counted (suc q * 10) ≡ 48 ∷ counted (suc q)
unfolding counted next
counted_tens zero = refl
counted_tens (suc q) =
    let n : suc (suc q) * 10 ≡ suc (suc q * 10 + 9) = omega arith in
    rw (n, counted_on (suc q) 9 (counted (suc q)) (counted_tens q) (omega arith))

counted_last : (q d : ℕ) → 0 < q → d < 10 → counted (q * 10 + d) ≡ (48 + d) ∷ counted q
counted_last zero d p h = absurd (omega arith)
counted_last (suc q) d p h = counted_on (suc q) d (counted (suc q)) (counted_tens q) h

-- A number below ten is its digit.
pub decimal_digit : (n : ℕ) → n < 10 → decimal n ≡ (48 + n) ∷ []
unfolding decimal
decimal_digit n h = rw (counted_digit n h)

-- Any other is the number of its tens with the last digit behind it.
pub decimal_more : (n : ℕ) → 10 ≤ n → decimal n ≡ decimal (n / 10) ++ ((48 + n % 10) ∷ [])
unfolding decimal
decimal_more n h =
    ap reverse (ap counted (sym (div-add-mod' n 10)) ∙ counted_last (n / 10) (n % 10) (omega arith) (omega arith)) ∙ reverse-cons (48 + n % 10) (counted (n / 10))

one_more : (k n : ℕ) (t : Bool) → ltb n 10 ≡ t → length (decimal (n / 10)) ≤ suc k → length (decimal n) ≤ suc (suc k)
one_more k n true e h = omega (arith, ap length (decimal_digit n (ltb-true n 10 e)))
one_more k n false e h = rw (decimal_more n (ltb-false n 10 e), length-append) (omega arith)

-- A number below a power of ten has no more digits than the power.
pub places : (k n : ℕ) → n < 10 ^ suc k → length (decimal n) ≤ suc k
places zero n h = omega (arith, ap length (decimal_digit n (omega (arith, pow-suc 10 0, pow-zero 10))))
places (suc k) n h = one_more k n (ltb n 10) refl (places k (n / 10) (omega (arith, pow-suc 10 (suc k))))
