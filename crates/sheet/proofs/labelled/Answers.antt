-- `sheet::labelled`: its two pieces, one behind the other.
use Rattle.text.proofs.Buffer.{◌then◌}
use Rattle.sheet.proofs.labelled.Goals as goal

pub returns : goal.returns
returns c = c.literal.ensures then c.range.ensures
