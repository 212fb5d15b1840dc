use Rattle.std.proofs.Common.{rules}
use Rattle.limit.proofs.Means.{least_means}
use Rattle.limit.proofs.Limit.least.Goals as goal

pub returns-clause-meaning : goal.returns-clause-meaning
returns-clause-meaning c = least_means c.args.n (search rules)
