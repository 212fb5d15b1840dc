-- `text::Text::literal`: the bytes so far stand behind what was there.
use Rattle.std.proofs.Common.{add-one, arith, take-suc, take_all}
use Rattle.text.proofs.Buffer.{puts_nothing, ◌then◌}
use Rattle.text.proofs.Text.literal.Goals as goal

pub loop-b-init : goal.loop-b-init
loop-b-init c = puts_nothing

pub loop-b-preserved : goal.loop-b-preserved
loop-b-preserved c = rw (add-one, take-suc c.args.s.now c.loop-b.b-index 0 (omega arith)) (c.loop-b.invariant then c.put.ensures)

pub returns : goal.returns
returns c = rw (take_all c.loop-b.b-index c.args.s.now (omega arith)) at c.loop-b.invariant
