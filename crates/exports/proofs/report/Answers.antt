-- `report` meets its contract.
use Rattle.std.proofs.Common.{refl}
use Rattle.exports.proofs.Counts.{two}
use Rattle.exports.proofs.report.Goals as goal

pub returns : goal.returns
returns c = record { number = refl; counts = two c.args.counts.now _ _ c.requires }
