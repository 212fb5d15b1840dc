use Rattle.std.proofs.Common.{rules}
use Rattle.limit.proofs.Means.{more_means}
use Rattle.limit.proofs.Limit.more.Goals as goal

pub returns-clause-meaning : goal.returns-clause-meaning
returns-clause-meaning c = more_means c.args.n (search rules)
