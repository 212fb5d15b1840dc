-- Recursive descent by equations that are free of the bounds on its depth.
use mathlib.Core.Path.{◌≡◌, refl, ◌∙◌, ap}
use mathlib.Core.Bool.{Bool, true, false}
use mathlib.Core.List.{List}
use Prim.Native.Nat.{ℕ, zero, suc, ◌+◌, ◌*◌, ◌<◌, ◌≤◌}
use native.Mathlib.Omega.{arith}
use lib.ListN.{length}
use Rattle.expression.specs.declared.Join.{Join}
use Rattle.expression.specs.declared.Join.TheVariants.{Union, Intersection, Concatenation}
use Rattle.expression.specs.declared.Unary.{Unary}
use Rattle.expression.specs.declared.Unary.TheVariants.{Absence}
use Rattle.expression.specs.Expression.{Expression, epsilon, join, unary}
use Rattle.tokens.specs.Tokens.{Got, no, yes, branch, bind, starts, rest, expect, postfix, lettered}
use Rattle.tokens.proofs.Text.{starts_shorter}
use Rattle.descent.specs.Descent.{perhaps, postfixes, symbol, Rank, joining, factoring, repeating, single, below, read, joins, height, need, descent}
use Rattle.descent.proofs.Sound.{shorter, postfix_shorter}

-- how the reading goes on after the first operand of a join, and after a primary
unfoldable pub joins_after : Join → Expression → List ℕ → Got Expression
joins_after j e s = joins (length s * 8 + 1) j e s

unfoldable pub postfixes_after : Expression → List ℕ → Got Expression
postfixes_after e s = postfixes (suc (length s)) e s

bind_same : {A B : Type 0} (g : Got A) {g' : Got A} (k k' : A → List ℕ → Got B) → g ≡ g' → ((x : A) (r : List ℕ) → g ≡ yes x r → k x r ≡ k' x r) → bind g k ≡ bind g' k'
unfolding bind
bind_same no k k' e f = rw (← e) refl
bind_same (yes x r) k k' e f = rw (← e) (f x r refl)

branch_same : {A : Type 0} (b : Bool) (a c a' c' : Unit {0} → Got A) → (b ≡ true → a tt ≡ a' tt) → c tt ≡ c' tt → branch b a c ≡ branch b a' c'
unfolding branch
branch_same true a c a' c' p q = p refl
branch_same false a c a' c' p q = q

perhaps_on : {A B : Type 0} {g : Got A} {x : A} {s : List ℕ} (k : A → List ℕ → Got B) (h : Got B) → g ≡ yes x s → perhaps g k h ≡ k x s
perhaps_on k h e = ap (λ (g : _). perhaps g k h) e

perhaps_off : {A B : Type 0} {g : Got A} (k : A → List ℕ → Got B) (h : Got B) → g ≡ no → perhaps g k h ≡ h
perhaps_off k h e = ap (λ (g : _). perhaps g k h) e

perhaps_same : {A B : Type 0} (g : Got A) (k k' : A → List ℕ → Got B) (h : Got B) → ((x : A) (r : List ℕ) → g ≡ yes x r → k x r ≡ k' x r) → perhaps g k h ≡ perhaps g k' h
perhaps_same no k k' h f = refl
perhaps_same (yes x r) k k' h f = f x r refl

postfixes_same : (n m : ℕ) (e : Expression) (s : List ℕ) → length s < n → length s < m → postfixes n e s ≡ postfixes m e s
unfolding postfixes
postfixes_same zero m e s h k = absurd (omega arith)
postfixes_same (suc n) zero e s h k = absurd (omega arith)
postfixes_same (suc n) (suc m) e s h k =
    perhaps_same (postfix s) _ _ _ (λ u r g. let d = postfix_shorter s u r g in postfixes_same n m (unary u e) r (omega arith) (omega arith))

below_height : (j : Join) → height (joining j) ≡ height (below j) + 1
unfolding height
below_height Union = refl
below_height Intersection = refl
below_height Concatenation = refl

height_low : (j : Join) → height (joining j) ≤ 6
unfolding height
height_low Union = omega arith
height_low Intersection = omega arith
height_low Concatenation = omega arith

height_some : (k : Rank) → 0 < height k
unfolding height
height_some (joining Union) = omega arith
height_some (joining Intersection) = omega arith
height_some (joining Concatenation) = omega arith
height_some factoring = omega arith
height_some repeating = omega arith
height_some single = omega arith

height_factoring : height factoring ≡ height repeating + 1
unfolding height
height_factoring = refl

height_repeating : height repeating ≡ height single + 1
unfolding height
height_repeating = refl

-- above the bound, the depth does not count
mutual
  unfolding read

  same : (n m : ℕ) (k : Rank) (s : List ℕ) → need k s ≤ n → need k s ≤ m → read n k s ≡ read m k s
  same zero m k s h l = absurd (omega (arith, height_some k))
  same (suc n) zero k s h l = absurd (omega (arith, height_some k))
  same (suc n) (suc m) (joining j) s h l =
      let d = below_height j in
      let b = height_some (below j) in
      bind_same _ _ _ (same n m (below j) s (omega arith) (omega arith))
      (λ e r g. let f = shorter n (below j) s e r g in joins_same n m j e r (omega arith) (omega arith))
  same (suc n) (suc m) factoring s h l =
      let d = height_factoring in
      branch_same _ _ _ _ _
      (λ w. let f = starts_shorter 126 s w in bind_same _ _ _ (same n m repeating (rest s) (omega arith) (omega arith)) (λ e r g. refl))
      (same n m repeating s (omega arith) (omega arith))
  same (suc n) (suc m) repeating s h l = let d = height_repeating in bind_same _ _ _ (same n m single s (omega arith) (omega arith)) (λ e r g. refl)
  same (suc n) (suc m) single s h l =
      let d = height_some single in
      branch_same _ _ _ _ _
      (λ w.
      let f = starts_shorter 40 s w in
      bind_same _ _ _ (same n m (joining Union) (rest s) (omega (arith, height_low Union)) (omega (arith, height_low Union))) (λ e r g. refl))
      refl

  joins_same : (n m : ℕ) (j : Join) (e : Expression) (s : List ℕ) → length s * 8 < n → length s * 8 < m → joins n j e s ≡ joins m j e s
  joins_same zero m j e s h l = absurd (omega arith)
  joins_same (suc n) zero j e s h l = absurd (omega arith)
  joins_same (suc n) (suc m) j e s h l =
      branch_same _ _ _ _ _
      (λ w.
      let d = starts_shorter (symbol j) s w in
      let b = below_height j in
      let c = height_low j in
      bind_same _ _ _ (same n m (below j) (rest s) (omega arith) (omega arith))
      (λ f r g. let i = shorter n (below j) (rest s) f r g in joins_same n m j (join j e f) r (omega arith) (omega arith)))
      refl

-- the equations, by which the code's proofs go
pub joining_is : (j : Join) (s : List ℕ) → descent (joining j) s ≡ bind (descent (below j) s) (λ e r. joins_after j e r)
unfolding read descent joins_after
joining_is j s =
    let d = below_height j in
    let b = height_some (below j) in
    same (need (joining j) s) (suc (need (below j) s)) (joining j) s (omega arith) (omega arith)
    ∙ bind_same (read (need (below j) s) (below j) s) _ _ refl
    (λ e r g. let f = shorter (need (below j) s) (below j) s e r g in joins_same (need (below j) s) (length r * 8 + 1) j e r (omega arith) (omega arith))

pub factoring_is : (s : List ℕ)
    → descent factoring s
    ≡ branch (starts 126 s) (λ _. bind (descent repeating (rest s)) (λ e r. yes (unary Absence e) r)) (λ _. descent repeating s)
unfolding read height descent
factoring_is s =
    same (need factoring s) (suc (need repeating s)) factoring s (omega arith) (omega arith)
    ∙ branch_same _ _ _ _ _
    (λ w.
    let f = starts_shorter 126 s w in
    bind_same _ _ _ (same (need repeating s) (need repeating (rest s)) repeating (rest s) (omega arith) (omega arith)) (λ e r g. refl))
    refl

pub repeating_is : (s : List ℕ) → descent repeating s ≡ bind (descent single s) (λ e r. postfixes_after e r)
unfolding read height descent postfixes_after
repeating_is s = same (need repeating s) (suc (need single s)) repeating s (omega arith) (omega arith)

pub single_is : (s : List ℕ)
    → descent single s
    ≡ branch (starts 40 s) (λ _. bind (descent (joining Union) (rest s)) (λ e r. expect 41 e r))
    (λ _. branch (starts 95 s) (λ _. yes epsilon (rest s)) (λ _. lettered s))
unfolding read height descent
single_is s =
    same (need single s) (suc (length s * 8)) single s (omega arith) (omega arith)
    ∙ branch_same _ _ _ _ _
    (λ w.
    let f = starts_shorter 40 s w in
    bind_same _ _ _ (same (length s * 8) (need (joining Union) (rest s)) (joining Union) (rest s) (omega arith) (omega arith)) (λ e r g. refl))
    refl

joins_is : (j : Join) (e : Expression) (s : List ℕ)
    → joins_after j e s ≡ branch (starts (symbol j) s) (λ _. bind (descent (below j) (rest s)) (λ f r. joins_after j (join j e f) r)) (λ _. yes e s)
unfolding read descent joins_after
joins_is j e s =
    joins_same (length s * 8 + 1) (suc (length s * 8)) j e s (omega arith) (omega arith)
    ∙ branch_same _ _ _ _ _
    (λ w.
    let d = starts_shorter (symbol j) s w in
    let b = below_height j in
    let c = height_low j in
    bind_same _ _ _ (same (length s * 8) (need (below j) (rest s)) (below j) (rest s) (omega arith) (omega arith))
    (λ f r g.
    let i = shorter (length s * 8) (below j) (rest s) f r g in
    joins_same (length s * 8) (length r * 8 + 1) j (join j e f) r (omega arith) (omega arith)))
    refl

postfixes_is : (e : Expression) (s : List ℕ) → postfixes_after e s ≡ perhaps (postfix s) (λ u r. postfixes_after (unary u e) r) (yes e s)
unfolding postfixes postfixes_after
postfixes_is e s =
    perhaps_same (postfix s) _ _ _ (λ u r g. let d = postfix_shorter s u r g in postfixes_same (length s) (suc (length r)) (unary u e) r (omega arith) (omega arith))

module _ (j : Join) (e : Expression) (s : List ℕ) where
  pub joins_on : starts (symbol j) s ≡ true → joins_after j e s ≡ bind (descent (below j) (rest s)) (λ f r. joins_after j (join j e f) r)
  unfolding branch
  joins_on h = joins_is j e s ∙ rw h

  pub joins_off : starts (symbol j) s ≡ false → joins_after j e s ≡ yes e s
  unfolding branch
  joins_off h = joins_is j e s ∙ rw h

module _ (e : Expression) (s : List ℕ) where
  pub postfixes_on : {u : Unary} {r : List ℕ} → postfix s ≡ yes u r → postfixes_after e s ≡ postfixes_after (unary u e) r
  postfixes_on h = postfixes_is e s ∙ perhaps_on _ _ h

  pub postfixes_off : postfix s ≡ no → postfixes_after e s ≡ yes e s
  postfixes_off h = postfixes_is e s ∙ perhaps_off _ _ h
