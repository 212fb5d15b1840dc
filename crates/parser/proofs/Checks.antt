-- The three sums that the readers keep, against the letters and the ranges of an expression.
use Rattle.std.proofs.Common.{Option, Some, None}
use mathlib.Core.Path.{◌≡◌, refl, sym, ap, ◌∙◌}
use mathlib.Core.Bool.{Bool, true, false, cond, ◌||◌}
use mathlib.Core.List.Memᴰ
use mathlib.Core.List.{List, ◌++◌, Memᴰ}
use mathlib.Core.Logic.{◌⊎◌, ◌↔◌, inl, inr, ⊎_elim}
use Prim.Native.Nat.{ℕ, ◌<◌, ◌≤◌, min, max}
use native.Mathlib.Omega.{arith}
use lib.Dec.{eqb, ltb}
use borrow.Author.Tests.{ltb-true, ltb-false, eqb-true, lt-ltb, le-ltb, eq-eqb}
use Rattle.expression.specs.declared.Range.{Range}
use Rattle.expression.specs.declared.End.{End}
use Rattle.expression.specs.declared.End.TheVariants.{Closed, Open}
use Rattle.expression.specs.declared.Unary.{Unary}
use Rattle.expression.specs.declared.Unary.TheVariants.{Star, Band, Absence}
use Rattle.expression.specs.Expression.{Expression, epsilon, literal, join, unary, letters, ranges}
use Rattle.expression.specs.Refusal.{figure, Opened, WrongUpper, Wrong}
use Rattle.tokens.specs.Tokens.{cap, capped_end, capped_upper, capped_range, capped_unary}
use Rattle.leaves.specs.Reading.{capped, width, opened, is_wrong_upper, is_wrong_range, is_wrong_unary, wrong}

or_some : (a b : Bool) → (a || b) ≡ true → (a ≡ true) ⊎ (b ≡ true)
or_some true b e = inl refl
or_some false b e = inr e

or_none : (a b : Bool) → (a || b) ≡ false → (a ≡ false) × (b ≡ false)
or_none true b e = cc
or_none false b e = (refl, e)

-- LETTERS

join_below : (e f : Expression) {k : ℕ} → (Memᴰ k (letters e) → k < width e) → (Memᴰ k (letters f) → k < width f)
    → Memᴰ k (letters e ++ letters f) → k < max (width e) (width f)
join_below e f p q m = ⊎_elim (λ a. omega (arith, p a)) (λ a. omega (arith, q a)) (Memᴰ.append_cases (letters e) m)

-- a letter is below the width
pub letter_below : (e : Expression) {k : ℕ} → Memᴰ k (letters e) → k < width e
unfolding letters width
letter_below epsilon m = absurd (Memᴰ.not-nil m)
letter_below (literal s k) m = omega (arith, Memᴰ.eq_of_singleton m)
letter_below (join j e f) m = join_below e f (λ a. letter_below e a) (λ a. letter_below f a) m
letter_below (unary u e) m = letter_below e m

-- a letter of s at or beyond c
abbrev Beyond : ℕ → List ℕ → Type 0
Beyond c s = (k : ℕ) × Memᴰ k s × (c ≤ k)

join_beyond : (e f : Expression) (c : ℕ) → (c < width e → Beyond c (letters e)) → (c < width f → Beyond c (letters f))
    → c < max (width e) (width f) → Beyond c (letters e ++ letters f)
join_beyond e f c p q h = go (ltb c (width e)) refl
  where
    go : (b : Bool) → ltb c (width e) ≡ b → Beyond c (letters e ++ letters f)
    go true w = let a = p (ltb-true _ _ w) in (a.0, Memᴰ.append_left (letters f) a.1, a.2)
    go false w = let a = q (omega (arith, ltb-false c (width e) w)) in (a.0, Memᴰ.append_right (letters e) a.1, a.2)

-- the width is reached by a letter
pub letter_beyond : (e : Expression) (c : ℕ) → c < width e → Beyond c (letters e)
unfolding letters width
letter_beyond epsilon c h = absurd (omega arith)
letter_beyond (literal s k) c h = (k, Memᴰ.head refl, omega arith)
letter_beyond (join j e f) c h = join_beyond e f c (λ a. letter_beyond e c a) (λ a. letter_beyond f c a) h
letter_beyond (unary u e) c h = letter_beyond e c h

-- RANGES

opened_some : (e : End) → opened e ≡ true → Opened e
opened_some (Closed n) h = cc
opened_some (Open n) h = tt

opened_none : (e : End) → opened e ≡ false → Opened e → ⊥
opened_none (Closed n) h o = o
opened_none (Open n) h o = cc

-- equal ends, with a `<` on either
module _ (lo hi : End) where
  equal_some : cond (eqb (figure lo) (figure hi)) (opened lo || opened hi) false ≡ true → (figure lo ≡ figure hi) × (Opened lo ⊎ Opened hi)
  equal_some h = go (eqb (figure lo) (figure hi)) refl h
    where
      go : (b : Bool) → eqb (figure lo) (figure hi) ≡ b → cond b (opened lo || opened hi) false ≡ true → (figure lo ≡ figure hi) × (Opened lo ⊎ Opened hi)
      go true e h = (eqb-true _ _ e, ⊎_elim (λ o. inl (opened_some lo o)) (λ o. inr (opened_some hi o)) (or_some _ _ h))
      go false e h = cc

  equal_none : cond (eqb (figure lo) (figure hi)) (opened lo || opened hi) false ≡ false → figure lo ≡ figure hi → Opened lo ⊎ Opened hi → ⊥
  equal_none h e o =
      let p = or_none _ _ (rw (eq-eqb _ _ e) at h) in
      ⊎_elim (λ a. opened_none lo p.0 a) (λ a. opened_none hi p.1 a) o

wrong_upper_some : (lo : End) (hi : Option End) → is_wrong_upper lo hi ≡ true → WrongUpper lo hi
wrong_upper_some lo None e = cc
wrong_upper_some lo (Some hi) e =
    ⊎_elim (λ a. inl (ltb-true _ _ a)) (λ b. inr (⊎_elim (λ a. inl (ltb-true _ _ a)) (λ a. inr (equal_some lo hi a)) (or_some _ _ b))) (or_some _ _ e)

wrong_upper_none : (lo : End) (hi : Option End) → is_wrong_upper lo hi ≡ false → WrongUpper lo hi → ⊥
wrong_upper_none lo None e w = w
wrong_upper_none lo (Some hi) e w =
    let p = or_none (ltb 1000000 (figure hi)) (ltb (figure hi) (figure lo) || cond (eqb (figure lo) (figure hi)) (opened lo || opened hi) false) e in
    let q = or_none (ltb (figure hi) (figure lo)) (cond (eqb (figure lo) (figure hi)) (opened lo || opened hi) false) p.1 in
    ⊎_elim (λ a. omega (arith, ltb-false 1000000 (figure hi) p.0))
    (λ v. ⊎_elim (λ a. omega (arith, ltb-false (figure hi) (figure lo) q.0)) (λ a. equal_none lo hi q.1 a.0 a.1) v)
    w

wrong_range_some : (r : Range) → is_wrong_range r ≡ true → Wrong r
wrong_range_some r e = ⊎_elim (λ a. inl (ltb-true _ _ a)) (λ a. inr (wrong_upper_some r.lo r.hi a)) (or_some _ _ e)

wrong_range_none : (r : Range) → is_wrong_range r ≡ false → Wrong r → ⊥
wrong_range_none r e w =
    let p = or_none (ltb 1000000 (figure r.lo)) (is_wrong_upper r.lo r.hi) e in
    ⊎_elim (λ a. omega (arith, ltb-false 1000000 (figure r.lo) p.0)) (λ a. wrong_upper_none r.lo r.hi p.1 a) w

-- what is answered exactly of wrong ranges is the test
pub wrong_is : (r : Range) (b : Bool) → (b ≡ true) ↔ Wrong r → b ≡ is_wrong_range r
wrong_is r b h = go b (is_wrong_range r) h refl
  where
    go : (b t : Bool) → (b ≡ true) ↔ Wrong r → is_wrong_range r ≡ t → b ≡ t
    go true true h e = refl
    go true false h e = absurd (wrong_range_none r e (h.0 refl))
    go false true h e = h.1 (wrong_range_some r e)
    go false false h e = refl

-- some range of the list is wrong
abbrev SomeWrong : List Range → Type 0
SomeWrong rs = (r : Range) × Memᴰ r rs × Wrong r

join_some : (e f : Expression) → (wrong e ≡ true → SomeWrong (ranges e)) → (wrong f ≡ true → SomeWrong (ranges f)) → (wrong e || wrong f) ≡ true → SomeWrong (ranges e ++ ranges f)
join_some e f p q h =
    ⊎_elim (λ w. let a = p w in (a.0, Memᴰ.append_left (ranges f) a.1, a.2)) (λ w. let a = q w in (a.0, Memᴰ.append_right (ranges e) a.1, a.2))
    (or_some _ _ h)

pub range_wrong : (e : Expression) → wrong e ≡ true → SomeWrong (ranges e)
unfolding ranges wrong
range_wrong epsilon h = cc
range_wrong (literal s k) h = cc
range_wrong (join j e f) h = join_some e f (λ a. range_wrong e a) (λ a. range_wrong f a) h
range_wrong (unary Star e) h = range_wrong e h
range_wrong (unary (Band r) e) h =
    ⊎_elim (λ w. (r, Memᴰ.head refl, wrong_range_some r w)) (λ w. let a = range_wrong e w in (a.0, Memᴰ.tail a.1, a.2))
    (or_some (is_wrong_range r) (wrong e) h)
range_wrong (unary Absence e) h = range_wrong e h

join_none : (e f : Expression) {r : Range} → (wrong e ≡ false → Memᴰ r (ranges e) → Wrong r → ⊥) → (wrong f ≡ false → Memᴰ r (ranges f) → Wrong r → ⊥)
    → (wrong e || wrong f) ≡ false → Memᴰ r (ranges e ++ ranges f) → Wrong r → ⊥
join_none e f p q h m w = let a = or_none _ _ h in ⊎_elim (λ x. p a.0 x w) (λ x. q a.1 x w) (Memᴰ.append_cases (ranges e) m)

pub range_right : (e : Expression) {r : Range} → wrong e ≡ false → Memᴰ r (ranges e) → Wrong r → ⊥
unfolding ranges wrong
range_right epsilon h m w = Memᴰ.not-nil m
range_right (literal s k) h m w = Memᴰ.not-nil m
range_right (join j e f) h m w = join_none e f (λ a b c. range_right e a b c) (λ a b c. range_right f a b c) h m w
range_right (unary Star e) h m w = range_right e h m w
range_right (unary (Band s) e) {r} h m w =
    let a = or_none (is_wrong_range s) (wrong e) h in
    ⊎_elim (λ x. wrong_range_none r (rw x a.0) w) (λ x. range_right e a.1 x w) (Memᴰ.cases_cons m)
range_right (unary Absence e) h m w = range_right e h m w

-- THE CAP

cap_same : (n : ℕ) → ltb 1000000 n ≡ false → cap n ≡ n
unfolding cap
cap_same n e = omega (arith, ltb-false 1000000 n e)

cap_over : (n : ℕ) → ltb 1000000 (cap n) ≡ ltb 1000000 n
unfolding cap
cap_over n = go (ltb 1000000 n) refl
  where
    go : (b : Bool) → ltb 1000000 n ≡ b → ltb 1000000 (min n 1000001) ≡ ltb 1000000 n
    go true e = let h : 1000000 < min n 1000001 = omega (arith, ltb-true 1000000 n e) in lt-ltb _ _ h ∙ sym e
    go false e = let h : min n 1000001 ≤ 1000000 = omega (arith, ltb-false 1000000 n e) in le-ltb _ _ h ∙ sym e

figure_capped : (e : End) → figure (capped_end e) ≡ cap (figure e)
figure_capped (Closed n) = refl
figure_capped (Open n) = refl

opened_capped : (e : End) → opened (capped_end e) ≡ opened e
opened_capped (Closed n) = refl
opened_capped (Open n) = refl

-- Capped or not, a range is wrong or not: two numbers that the cap makes equal are both too large.
capped_wrong : (r : Range) → is_wrong_range (capped_range r) ≡ is_wrong_range r
capped_wrong r = go r.lo r.hi
  where
    go : (lo : End) (hi : Option End) → (ltb 1000000 (figure (capped_end lo)) || is_wrong_upper (capped_end lo) (capped_upper hi)) ≡ (ltb 1000000 (figure lo) || is_wrong_upper lo hi)
    go lo None = rw (figure_capped lo, cap_over)
    go lo (Some hi) = rw (figure_capped lo, figure_capped hi, opened_capped lo, opened_capped hi) (by (figure lo) (figure hi) (ltb 1000000 (figure lo)) (ltb 1000000 (figure hi)) refl refl)
      where
        by : (m n : ℕ) (a b : Bool) → ltb 1000000 m ≡ a → ltb 1000000 n ≡ b
            → (ltb 1000000 (cap m) || (ltb 1000000 (cap n) || (ltb (cap n) (cap m) || cond (eqb (cap m) (cap n)) (opened lo || opened hi) false)))
            ≡ (ltb 1000000 m || (ltb 1000000 n || (ltb n m || cond (eqb m n) (opened lo || opened hi) false)))
        by m n true b p q = rw (cap_over m, p)
        by m n false true p q = rw (cap_over m, cap_over n, p, q)
        by m n false false p q = rw (cap_over m, cap_over n, p, q, cap_same m p, cap_same n q)

-- and so is an operator
pub capped_wrong_unary : (u : Unary) → is_wrong_unary (capped_unary u) ≡ is_wrong_unary u
capped_wrong_unary Star = refl
capped_wrong_unary (Band r) = capped_wrong r
capped_wrong_unary Absence = refl

capped_end_lem : (e : End) → ltb 1000000 (figure e) ≡ false → capped_end e ≡ e
capped_end_lem (Closed n) h = ap Closed (cap_same n h)
capped_end_lem (Open n) h = ap Open (cap_same n h)

capped_upper_lem : (lo : End) (hi : Option End) → is_wrong_upper lo hi ≡ false → capped_upper hi ≡ hi
capped_upper_lem lo None e = refl
capped_upper_lem lo (Some hi) e = ap Some (capped_end_lem hi (or_none _ _ e).0)

-- what is stored of an expression without a wrong range is the expression itself
pub capped_same : (e : Expression) → wrong e ≡ false → capped e ≡ e
unfolding capped wrong
capped_same epsilon h = refl
capped_same (literal s k) h = refl
capped_same (join j e f) h = let a = or_none _ _ h in rw (capped_same e a.0, capped_same f a.1)
capped_same (unary Star e) h = rw (capped_same e h)
capped_same (unary (Band r) e) h =
    let a = or_none (is_wrong_range r) (wrong e) h in
    let b = or_none (ltb 1000000 (figure r.lo)) (is_wrong_upper r.lo r.hi) a.0 in
    rw (capped_same e a.1, capped_end_lem r.lo b.0, capped_upper_lem r.lo r.hi b.1)
capped_same (unary Absence e) h = rw (capped_same e h)
