use Rattle.std.proofs.Common.{rules}
use Rattle.limit.proofs.Means.{most_means}
use Rattle.limit.proofs.Limit.most.Goals as goal

pub returns-clause-meaning : goal.returns-clause-meaning
returns-clause-meaning c = most_means c.args.n (search rules)
