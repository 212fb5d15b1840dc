-- What `evaluate` asks of its node.
use Rattle.std.specs.Prelude.{List, ℕ}
use Rattle.expression.specs.Expression.{Expression}
use Rattle.expression.specs.Planted.{Planted}

-- node n is some expression, no deeper than d
pub record Rooted (ns : List ℕ) (channels n d : ℕ) : Type 0 where
  pub expression : Expression
  pub planted : Planted ns channels n d expression
