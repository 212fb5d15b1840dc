-- The words of limits: coding, its order, and sums of limits by their words.
use mathlib.Core.Path.{◌≡◌, refl, sym, ◌∙◌}
use mathlib.Core.Bool.{Bool, true, false, cond}
use lib.Dec.{T}
use lib.IntN.{ℤ, pos, ◌+ℤ◌, ◌-ℤ◌, ◌*ℤ◌}
use lib.Signed.{le_z, lt_z, shr_z}
use Rattle.signed.proofs.Integers.{arithZ, sum, diff, half, times}
use Rattle.limit.specs.Limit.{Limit, AtMost, Below, at_most, lesser, greater, ◌⊕◌, nought, code, decode}

-- ---- the coding

decode_by : (w : ℤ) (b : Bool) → lt_z (shr_z w 2 *ℤ pos 2) w ≡ b → code (cond b (AtMost (shr_z w 2)) (Below (shr_z w 2))) ≡ w
decode_by w true e = omega (arithZ, half w, times (shr_z w 2) 2, sum (shr_z w 2 *ℤ pos 2) (pos 1))
decode_by w false e = omega (arithZ, half w, times (shr_z w 2) 2)

pub code_decode : (w : ℤ) → code (decode w) ≡ w
code_decode w = decode_by w (lt_z (shr_z w 2 *ℤ pos 2) w) refl

half_odd : (v : ℤ) → shr_z (v *ℤ pos 2 +ℤ pos 1) 2 ≡ v
half_odd v = omega (arithZ, half (v *ℤ pos 2 +ℤ pos 1), sum (v *ℤ pos 2) (pos 1), times v 2)

half_even : (v : ℤ) → shr_z (v *ℤ pos 2) 2 ≡ v
half_even v = omega (arithZ, half (v *ℤ pos 2), times v 2)

pub decode_code : (l : Limit) → decode (code l) ≡ l
decode_code (AtMost v) =
    let t : lt_z (v *ℤ pos 2) (v *ℤ pos 2 +ℤ pos 1) ≡ true = omega (arithZ, sum (v *ℤ pos 2) (pos 1)) in
    rw (half_odd v, t)
decode_code (Below v) =
    let t : lt_z (v *ℤ pos 2) (v *ℤ pos 2) ≡ false = omega arithZ in
    rw (half_even v, t)

-- ---- the order of words is the order of limits

same_test : (a b : Bool) → (T a → T b) → (T b → T a) → a ≡ b
same_test true true f g = refl
same_test true false f g = absurd (f tt)
same_test false true f g = absurd (g tt)
same_test false false f g = refl

pub code_order : (l m : Limit) → at_most l m ≡ le_z (code l) (code m)
code_order (AtMost a) (AtMost b) = same_test _ _ (λ t. omega (arithZ, t, times a 2, times b 2, sum (a *ℤ pos 2) (pos 1), sum (b *ℤ pos 2) (pos 1))) (λ t. omega (arithZ, t, times a 2, times b 2, sum (a *ℤ pos 2) (pos 1), sum (b *ℤ pos 2) (pos 1)))
code_order (AtMost a) (Below b) = same_test _ _ (λ t. omega (arithZ, t, times a 2, times b 2, sum (a *ℤ pos 2) (pos 1))) (λ t. omega (arithZ, t, times a 2, times b 2, sum (a *ℤ pos 2) (pos 1)))
code_order (Below a) (AtMost b) = same_test _ _ (λ t. omega (arithZ, t, times a 2, times b 2, sum (b *ℤ pos 2) (pos 1))) (λ t. omega (arithZ, t, times a 2, times b 2, sum (b *ℤ pos 2) (pos 1)))
code_order (Below a) (Below b) = same_test _ _ (λ t. omega (arithZ, t, times a 2, times b 2)) (λ t. omega (arithZ, t, times a 2, times b 2))

-- a limit and one on the negated quantity leave room where their words come to 2 or more
code_room : (l m : Limit) → at_most nought (l ⊕ m) ≡ le_z (pos 2) (code l +ℤ code m)
unfolding ◌⊕◌
code_room (AtMost a) (AtMost b) = same_test _ _ (λ t. omega (arithZ, t, times a 2, times b 2, sum a b, sum (a *ℤ pos 2) (pos 1), sum (b *ℤ pos 2) (pos 1), sum (a *ℤ pos 2 +ℤ pos 1) (b *ℤ pos 2 +ℤ pos 1))) (λ t. omega (arithZ, t, times a 2, times b 2, sum a b, sum (a *ℤ pos 2) (pos 1), sum (b *ℤ pos 2) (pos 1), sum (a *ℤ pos 2 +ℤ pos 1) (b *ℤ pos 2 +ℤ pos 1)))
code_room (AtMost a) (Below b) = same_test _ _ (λ t. omega (arithZ, t, times a 2, times b 2, sum a b, sum (a *ℤ pos 2) (pos 1), sum (a *ℤ pos 2 +ℤ pos 1) (b *ℤ pos 2))) (λ t. omega (arithZ, t, times a 2, times b 2, sum a b, sum (a *ℤ pos 2) (pos 1), sum (a *ℤ pos 2 +ℤ pos 1) (b *ℤ pos 2)))
code_room (Below a) (AtMost b) = same_test _ _ (λ t. omega (arithZ, t, times a 2, times b 2, sum a b, sum (b *ℤ pos 2) (pos 1), sum (a *ℤ pos 2) (b *ℤ pos 2 +ℤ pos 1))) (λ t. omega (arithZ, t, times a 2, times b 2, sum a b, sum (b *ℤ pos 2) (pos 1), sum (a *ℤ pos 2) (b *ℤ pos 2 +ℤ pos 1)))
code_room (Below a) (Below b) = same_test _ _ (λ t. omega (arithZ, t, times a 2, times b 2, sum a b, sum (a *ℤ pos 2) (b *ℤ pos 2))) (λ t. omega (arithZ, t, times a 2, times b 2, sum a b, sum (a *ℤ pos 2) (b *ℤ pos 2)))

pub room_beside : (l m : Limit) → le_z (pos 2 -ℤ code m) (code l) ≡ at_most nought (l ⊕ m)
room_beside l m =
    same_test _ _ (λ t. omega (arithZ, t, diff (pos 2) (code m), sum (code l) (code m))) (λ t. omega (arithZ, t, diff (pos 2) (code m), sum (code l) (code m)))
    ∙ sym (code_room l m)

pub decode_order : (a b : ℤ) → at_most (decode a) (decode b) ≡ le_z a b
decode_order a b = code_order (decode a) (decode b) ∙ rw (code_decode a, code_decode b)

-- ---- a sum, of words: with w >> 1 doubled, a word has lost its mark of being reached

decode_when : (w : ℤ) (b : Bool) → lt_z (shr_z w 2 *ℤ pos 2) w ≡ b → decode w ≡ cond b (AtMost (shr_z w 2)) (Below (shr_z w 2))
decode_when w b e = rw e

odd : (w : ℤ) (b : Bool) → lt_z (shr_z w 2 *ℤ pos 2) w ≡ b → ¬ (shr_z w 2 *ℤ pos 2 ≡ w) → b ≡ true
odd w true e n = refl
odd w false e n = absurd (n (omega (arithZ, e, half w, times (shr_z w 2) 2)))

pub decode_odd : (w : ℤ) → ¬ (shr_z w 2 *ℤ pos 2 ≡ w) → decode w ≡ AtMost (shr_z w 2)
decode_odd w n = decode_when w true (odd w _ refl n)

pub decode_even : (w : ℤ) → shr_z w 2 *ℤ pos 2 ≡ w → decode w ≡ Below (shr_z w 2)
decode_even w e = decode_when w false (omega (arithZ, e))

reached_sum : (u : ℤ) (m : Limit) → u *ℤ pos 2 +ℤ code m ≡ code (AtMost u ⊕ m)
unfolding ◌⊕◌
reached_sum u (AtMost v) = omega (arithZ, times u 2, times v 2, times (u +ℤ v) 2, sum u v, sum (v *ℤ pos 2) (pos 1), sum (u *ℤ pos 2) (v *ℤ pos 2 +ℤ pos 1), sum ((u +ℤ v) *ℤ pos 2) (pos 1))
reached_sum u (Below v) = omega (arithZ, times u 2, times v 2, times (u +ℤ v) 2, sum u v, sum (u *ℤ pos 2) (v *ℤ pos 2))

below_sum : (u : ℤ) (m : Limit) → u *ℤ pos 2 +ℤ shr_z (code m) 2 *ℤ pos 2 ≡ code (Below u ⊕ m)
unfolding ◌⊕◌
below_sum u (AtMost v) = rw (half_odd v) (omega (arithZ, times u 2, times v 2, times (u +ℤ v) 2, sum u v, sum (u *ℤ pos 2) (v *ℤ pos 2)))
below_sum u (Below v) = rw (half_even v) (omega (arithZ, times u 2, times v 2, times (u +ℤ v) 2, sum u v, sum (u *ℤ pos 2) (v *ℤ pos 2)))

sum_odd : (a b : ℤ) → ¬ (shr_z a 2 *ℤ pos 2 ≡ a) → shr_z a 2 *ℤ pos 2 +ℤ b ≡ code (decode a ⊕ decode b)
sum_odd a b n = rw (decode_odd a n, ← reached_sum (shr_z a 2) (decode b), code_decode b)

sum_even : (a b : ℤ) → shr_z a 2 *ℤ pos 2 ≡ a → shr_z a 2 *ℤ pos 2 +ℤ shr_z b 2 *ℤ pos 2 ≡ code (decode a ⊕ decode b)
sum_even a b e = rw (decode_even a e, ← below_sum (shr_z a 2) (decode b), code_decode b)

-- what the sum of the words has more than the word of the sum
pub excess_odd : (a b : ℤ) → ¬ (shr_z a 2 *ℤ pos 2 ≡ a) → pos 1 ≡ (a +ℤ b) -ℤ code (decode a ⊕ decode b)
excess_odd a b n = rw (← sum_odd a b n) (omega (arithZ, odd a _ refl n, half a, times (shr_z a 2) 2, sum a b, sum (shr_z a 2 *ℤ pos 2) b, diff (a +ℤ b) (shr_z a 2 *ℤ pos 2 +ℤ b)))

pub excess_even : (a b : ℤ) → shr_z a 2 *ℤ pos 2 ≡ a → b -ℤ shr_z b 2 *ℤ pos 2 ≡ (a +ℤ b) -ℤ code (decode a ⊕ decode b)
excess_even a b e =
    rw (← sum_even a b e) (omega (arithZ, e, times (shr_z a 2) 2, times (shr_z b 2) 2, sum a b, diff b (shr_z b 2 *ℤ pos 2), sum (shr_z a 2 *ℤ pos 2) (shr_z b 2 *ℤ pos 2), diff (a +ℤ b) (shr_z a 2 *ℤ pos 2 +ℤ shr_z b 2 *ℤ pos 2)))

-- the lesser limit has the lesser word, which is the first where no word of the two is less
pub lesser_word : (a b : ℤ) (t : Bool) → lt_z b a ≡ t → cond t b a ≡ code (lesser (decode a) (decode b))
unfolding lesser
lesser_word a b true e =
    let n : le_z a b ≡ false = omega (arithZ, e) in
    rw (decode_order a b, n, code_decode b)
lesser_word a b false e =
    let n : le_z a b ≡ true = omega (arithZ, e) in
    rw (decode_order a b, n, code_decode a)

pub lesser_of : (a b r : ℤ) → r ≡ cond (lt_z b a) b a → r ≡ code (lesser (decode a) (decode b))
lesser_of a b r e = e ∙ lesser_word a b _ refl

pub greater_word : (a b : ℤ) (t : Bool) → lt_z b a ≡ t → cond t a b ≡ code (greater (decode a) (decode b))
unfolding greater
greater_word a b true e =
    let n : le_z a b ≡ false = omega (arithZ, e) in
    rw (decode_order a b, n, code_decode a)
greater_word a b false e =
    let n : le_z a b ≡ true = omega (arithZ, e) in
    rw (decode_order a b, n, code_decode b)

pub greater_of : (a b r : ℤ) → r ≡ cond (lt_z b a) a b → r ≡ code (greater (decode a) (decode b))
greater_of a b r e = e ∙ greater_word a b _ refl
