-- Recursive descent as a function, by which the readers of `leaves` and `parser` say in their contracts which text they read.
-- The contract of `parse` does not cite it: that answers by the grammar, and proofs/ shows that the two agree.
use Rattle.std.specs.Prelude.{ℕ, zero, suc, ◌+◌, ◌*◌, List, length}
use Rattle.expression.specs.declared.Join.{Join}
use Rattle.expression.specs.declared.Join.TheVariants.{Union, Intersection, Concatenation}
use Rattle.expression.specs.declared.Unary.TheVariants.{Absence}
use Rattle.expression.specs.Expression.{Expression, epsilon, join, unary}
pub use Rattle.expression.specs.Grammar.{symbol}
use Rattle.tokens.specs.Tokens.{Got, no, yes, branch, bind, starts, rest, expect, postfix, lettered}

-- by what is read, if anything is
abbrev pub perhaps : {A B : Type 0} → Got A → (A → List ℕ → Got B) → Got B → Got B
perhaps no k g = g
perhaps (yes x r) k g = k x r

-- the `*` and `{lo,hi}` after a primary; n bounds how many
unfoldable pub postfixes : ℕ → Expression → List ℕ → Got Expression
postfixes zero e s = no
postfixes (suc n) e s = perhaps (postfix s) (λ u r. postfixes n (unary u e) r) (yes e s)

-- the grammar's levels, the three that join as one
pub data Rank : Type 0 where
  joining : Join → Rank
  factoring : Rank
  repeating : Rank
  single : Rank

-- the level of a join's operands
abbrev pub below : Join → Rank
below Union = joining Intersection
below Intersection = joining Concatenation
below Concatenation = factoring

unfoldable mutual
  -- n bounds how deep the calls go
  pub read : ℕ → Rank → List ℕ → Got Expression
  read zero k s = no
  read (suc n) (joining j) s = bind (read n (below j) s) (λ e r. joins n j e r)
  read (suc n) factoring s =
      branch (starts 126 s) (λ _. bind (read n repeating (rest s)) (λ e r. yes (unary Absence e) r)) (λ _. read n repeating s)
  read (suc n) repeating s = bind (read n single s) (λ e r. postfixes (suc (length r)) e r)
  read (suc n) single s =
      branch (starts 40 s) (λ _. bind (read n (joining Union) (rest s)) (λ e r. expect 41 e r))
      (λ _. branch (starts 95 s) (λ _. yes epsilon (rest s)) (λ _. lettered s))

  pub joins : ℕ → Join → Expression → List ℕ → Got Expression
  joins zero j e s = no
  joins (suc n) j e s = branch (starts (symbol j) s) (λ _. bind (read n (below j) (rest s)) (λ f r. joins n j (join j e f) r)) (λ _. yes e s)

unfoldable pub height : Rank → ℕ
height (joining Union) = 6
height (joining Intersection) = 5
height (joining Concatenation) = 4
height factoring = 3
height repeating = 2
height single = 1

-- the depth of calls that a text of the level needs
abbrev pub need : Rank → List ℕ → ℕ
need k s = length s * 8 + height k

-- the expression that a text begins with at a level, and the text after it
unfoldable pub descent : Rank → List ℕ → Got Expression
descent k s = read (need k s) k s
