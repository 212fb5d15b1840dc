-- `sheet::lines`: the lines of the first i zones stand behind what was there.
use Rattle.std.proofs.Common.{sym, add-one}
use Rattle.sheet.specs.Sheet.{lines as rows}
use Rattle.text.proofs.Buffer.{puts_nothing, ◌then◌}
use Rattle.sheet.proofs.lines.Goals as goal

pub loop-i-init : goal.loop-i-init
unfolding rows
loop-i-init c = puts_nothing

pub loop-i-preserved : goal.loop-i-preserved
unfolding rows
loop-i-preserved c = rw (add-one c.loop-i.i, sym c.read_zone.ensures) (c.loop-i.invariant then c.line.ensures)
