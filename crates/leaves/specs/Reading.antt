-- What the readers of the grammar's levels, here and in `parser`, ask and promise each other. No contract of `parse` cites it.
use Rattle.std.specs.Prelude.{Option, Some, None, ◌≡◌, Bool, true, false, cond, ◌||◌, List, ℕ, suc, ◌+◌, ◌*◌, ◌<◌, ◌≤◌, max, eqb, ltb, length, drop}
use Rattle.expression.specs.declared.Range.{Range}
use Rattle.expression.specs.declared.End.{End}
use Rattle.expression.specs.declared.End.TheVariants.{Closed, Open}
use Rattle.trees.specs.declared.Tree.{Tree}
use Rattle.expression.specs.declared.Unary.{Unary}
use Rattle.expression.specs.declared.Unary.TheVariants.{Star, Band, Absence}
use Rattle.expression.specs.Expression.{Expression, epsilon, literal, join, unary, depth}
use Rattle.expression.specs.Refusal.{figure}
use Rattle.expression.specs.Stored.{Stored, FrontKept}
use Rattle.tokens.specs.Tokens.{Got, no, yes, capped_unary}
use Rattle.descent.specs.Descent.{Rank, descent}

-- an expression as it is stored: all numbers above 1,000,000 alike
unfoldable pub capped : Expression → Expression
capped epsilon = epsilon
capped (literal s k) = literal s k
capped (join j e f) = join j (capped e) (capped f)
capped (unary u e) = unary (capped_unary u) (capped e)

-- one more than the highest letter
unfoldable pub width : Expression → ℕ
width epsilon = 0
width (literal s k) = suc k
width (join j e f) = max (width e) (width f)
width (unary u e) = width e

-- cause 7 as a test (`Wrong` of expression/specs/Refusal): some bound is above 1,000,000, or lo is above hi, or equal to it with a `<` on either
abbrev pub opened : End → Bool
opened (Closed n) = false
opened (Open n) = true

abbrev pub is_wrong_upper : End → Option End → Bool
is_wrong_upper lo None = false
is_wrong_upper lo (Some hi) = ltb 1000000 (figure hi) || (ltb (figure hi) (figure lo) || cond (eqb (figure lo) (figure hi)) (opened lo || opened hi) false)

abbrev pub is_wrong_range : Range → Bool
is_wrong_range r = ltb 1000000 (figure r.lo) || is_wrong_upper r.lo r.hi

abbrev pub is_wrong_unary : Unary → Bool
is_wrong_unary Star = false
is_wrong_unary (Band r) = is_wrong_range r
is_wrong_unary Absence = false

unfoldable pub wrong : Expression → Bool
wrong epsilon = false
wrong (literal s k) = false
wrong (join j e f) = wrong e || wrong f
wrong (unary u e) = is_wrong_unary u || wrong e

-- What the reader of a level asks where it begins, at `at` with `used` nodes stored: the text is not too long, no more nodes are stored than bytes
-- were read, and there is room for a node for each byte.
pub record Ready (text : List ℕ) (at : ℕ) (nodes : List ℕ) (used : ℕ) : Type 0 where
  pub short : length text < 256
  pub few : used ≤ at
  pub room : length text * 4 ≤ length nodes

-- From `at` on the text is, up to the tree's place, the expression e, stored at its root; what is left of the reading is `rest`.
pub record Reached (k : Rank) (rest : Expression → List ℕ → Got Expression) (text : List ℕ) (at used : ℕ) (before after : List ℕ) (tree : Tree) : Type 0 where
  pub ahead : at < tree.at
  pub inside : tree.at ≤ length text
  pub few : tree.used + at ≤ tree.at + used
  pub grown : used ≤ tree.used
  pub rooted : tree.root < tree.used
  pub shallow : tree.depth ≤ tree.used
  pub kept : FrontKept (used * 4) before after
  pub e : Expression
  pub stored : Stored after tree.root (capped e)
  pub depth_is : tree.depth ≡ depth e
  pub width_is : tree.width ≡ width e
  pub wrong_is : tree.wrong ≡ wrong e
  pub read : descent k (drop at text) ≡ rest e (drop tree.at text)

-- what the reader of a level makes of the text from `at` on, with `used` nodes stored before
abbrev pub ReadAs : Rank → List ℕ → ℕ → ℕ → List ℕ → List ℕ → Option Tree → Type 0
ReadAs k text at used before after (Some tree) = Reached k yes text at used before after tree
ReadAs k text at used before after None = descent k (drop at text) ≡ no
