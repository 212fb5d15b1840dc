-- `sheet::refused`: its three pieces, one behind the other.
use Rattle.sheet.specs.Sheet.{refused}
use Rattle.text.proofs.Buffer.{◌then◌}
use Rattle.sheet.proofs.refused.Goals as goal

pub returns : goal.returns
unfolding refused
returns c = c.literal.ensures then c.decimal.ensures then c.put.ensures
