-- `sheet::finished`: its six pieces, one behind the other.
use Rattle.sheet.specs.Sheet.{finished}
use Rattle.text.proofs.Buffer.{◌then◌}
use Rattle.sheet.proofs.finished.Goals as goal

pub returns : goal.returns
unfolding finished
returns c = c.literal.ensures then c.decimal.ensures then c.literal-2.ensures then c.decimal-2.ensures then c.put.ensures then c.lines.ensures
