use Rattle.std.proofs.Common.{◌-◌, length}
use Rattle.tokens.proofs.Numbers.{Counted}
use Rattle.tokens.proofs.number_at.Given as goal

abbrev pub invariant-loop-value : goal.invariant-loop-value
invariant-loop-value l = Counted l.text l.at l.pos l.value

abbrev pub decreases-loop-value : goal.decreases-loop-value
decreases-loop-value l = length l.text - l.pos
