-- What the code of an operation answers for one pair, and by which limits of the left zone it passes others over.
use Rattle.std.specs.Prelude.{◌≡◌, ℕ, ◌+◌, Option, Some, None}
use Rattle.zone.specs.declared.Zone.{Zone}
use Rattle.zone.specs.Zone.{Touches}
use Rattle.growing.specs.declared.Growing.{Growing}
use Rattle.pairs.specs.Pairs.{Operation, Meet, Compose, apply}

-- the list with one pair more
abbrev pub one_more : Growing → Growing
one_more g = record { count = g.count; changed = g.changed; pairs = g.pairs + 1; latest = g.latest }

-- .. if the operation composes
abbrev pub counting : Operation → Growing → Growing
counting Meet g = g
counting Compose g = one_more g

-- a pair that is composed has a time in common
abbrev pub Composable : Operation → Zone → Zone → Type 0
Composable Meet z w = Unit {0}
Composable Compose z w = Touches z w

-- what an operation makes of a pair
abbrev pub CombinedAs : Operation → Zone → Zone → Option Zone → Type 0
CombinedAs op z w None = apply op z w ≡ None
CombinedAs op z w (Some v) = (apply op z w ≡ Some v) × Composable op z w

-- the word of a left zone from which the limits stand that must have a time in common with a right zone's starts: those of its starts for a meet,
-- of its ends for a composition
abbrev pub side : Operation → ℕ
side Meet = 0
side Compose = 2
