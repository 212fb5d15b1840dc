-- `sheet::line`: its four pieces, one behind the other.
use Rattle.sheet.specs.Sheet.{line}
use Rattle.text.proofs.Buffer.{◌then◌}
use Rattle.sheet.proofs.line.Goals as goal

pub returns : goal.returns
unfolding line
returns c = c.labelled.ensures then c.labelled-2.ensures then c.labelled-3.ensures then c.put.ensures
