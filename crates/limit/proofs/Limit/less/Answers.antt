use Rattle.std.proofs.Common.{rules}
use Rattle.limit.proofs.Means.{less_means}
use Rattle.limit.proofs.Limit.less.Goals as goal

pub returns-clause-meaning : goal.returns-clause-meaning
returns-clause-meaning c = less_means c.args.n (search rules)
