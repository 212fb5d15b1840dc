-- What an evaluator of the stored tree is told of a node.
use mathlib.Core.List.{List, Memᴰ}
use Rattle.std.specs.Prelude.{ℕ, ◌<◌, ◌≤◌}
use Rattle.expression.specs.declared.Range.{Range}
use Rattle.expression.specs.Expression.{Expression, Unary, Star, Band, Absence, depth, letters, ranges}
use Rattle.expression.specs.Refusal.{Wrong}
use Rattle.expression.specs.Stored.{Stored}

-- node n is the expression, no deeper than d, with letters below the channel count and no wrong range
pub record Planted (ns : List ℕ) (channels n d : ℕ) (e : Expression) : Type 0 where
  pub stored : Stored ns n e
  pub shallow : depth e ≤ d
  pub known : (k : ℕ) → Memᴰ k (letters e) → k < channels
  pub right : (r : Range) → Memᴰ r (ranges e) → Wrong r → ⊥

-- the range of a band has passed check 7
abbrev pub Right : Unary → Type 0
Right Star = Unit {0}
Right (Band r) = Wrong r → ⊥
Right Absence = Unit {0}
