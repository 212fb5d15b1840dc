-- Document 01's drills as timed regular expressions, with their depth, letters and ranges.
use Rattle.std.specs.Prelude.{ℕ, suc, max, List, [], ◌∷◌, ◌++◌}
use Rattle.expression.specs.declared.Range.{Range}
pub use Rattle.expression.specs.declared.Sign.{Sign}
pub use Rattle.expression.specs.declared.Sign.TheVariants.{High, Low, Rise, Fall}
pub use Rattle.expression.specs.declared.Join.{Join}
pub use Rattle.expression.specs.declared.Join.TheVariants.{Union, Intersection, Concatenation}
pub use Rattle.expression.specs.declared.Unary.{Unary}
pub use Rattle.expression.specs.declared.Unary.TheVariants.{Star, Band, Absence}

-- A drill. A letter is its channel's number, `a` being 0. A range is the code's own struct; here its numbers may have any size.
pub data Expression : Type 0 where
  -- `_`
  epsilon : Expression
  -- a letter, and `!`, `+` or `-` and a letter
  literal : Sign → ℕ → Expression
  -- `|`, `&` and `.`
  join : Join → Expression → Expression → Expression
  -- `*`, `{lo,hi}` and `~`
  unary : Unary → Expression → Expression

-- "a letter, `!` with its letter, or `_` has 1, an operator one more than its deepest operand"; `+` and `-` with their letter have "depth 1"
unfoldable pub depth : Expression → ℕ
depth epsilon = 1
depth (literal s k) = 1
depth (join j e f) = suc (max (depth e) (depth f))
depth (unary u e) = suc (depth e)

-- the letters of a drill, from left to right
unfoldable pub letters : Expression → List ℕ
letters epsilon = []
letters (literal s k) = k ∷ []
letters (join j e f) = letters e ++ letters f
letters (unary u e) = letters e

-- the ranges of a drill's bands
unfoldable pub ranges : Expression → List Range
ranges epsilon = []
ranges (literal s k) = []
ranges (join j e f) = ranges e ++ ranges f
ranges (unary Star e) = ranges e
ranges (unary (Band r) e) = r ∷ ranges e
ranges (unary Absence e) = ranges e
