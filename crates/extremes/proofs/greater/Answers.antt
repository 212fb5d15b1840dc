-- `greater`, by the order of the two limits.
use Rattle.std.proofs.Common.{sym, ◌∙◌}
use Rattle.limit.specs.Limit.{greater}
use Rattle.extremes.proofs.greater.Goals as goal

pub returns-then-at_most : goal.returns-then-at_most
unfolding greater
returns-then-at_most c = rw (sym c.at_most.ensures ∙ c.if-at_most.true)

pub returns-else-at_most : goal.returns-else-at_most
unfolding greater
returns-else-at_most c = rw (sym c.at_most.ensures ∙ c.if-at_most.false)
