use Rattle.std.proofs.Common.{rules}
use Rattle.growing.proofs.Late.{takes}
use Rattle.growing.proofs.with_zone.Goals as goal

pub returns : goal.returns
returns c = takes c.args.latest _ c.args.w.now (search rules) (search rules)
