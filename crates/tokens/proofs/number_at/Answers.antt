-- `number_at` meets its contract.
use Rattle.tokens.proofs.Numbers.{cap_is, number_none, number_first, counts_zero, counts_end, counts_on}
use Rattle.tokens.proofs.number_at.Goals as goal

pub returns-in_err-value : goal.returns-in_err-value
returns-in_err-value c = rw c.from_residual.ensures (number_none _ c.in_err-value.ensures)

pub loop-value-init : goal.loop-value-init
loop-value-init c = number_first c.in_ok-value.ensures

pub loop-value-preserved : goal.loop-value-preserved
loop-value-preserved c = counts_on c.loop-value.invariant c.loop-value-test.true c.in-Some.ensures (cap_is _ _ c.min-value.ensures)

pub returns-after-loop-value : goal.returns-after-loop-value
returns-after-loop-value c = counts_zero c.loop-value.invariant c.loop-value-test.false

pub returns-in-loop-value : goal.returns-in-loop-value
returns-in-loop-value c = counts_end c.loop-value.invariant _ c.offset_at-in-loop-value.ensures (cc)
