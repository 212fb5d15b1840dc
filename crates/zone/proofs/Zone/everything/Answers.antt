use Rattle.std.proofs.Common.{rules}
use Rattle.zone.proofs.Means.{everything_is, everything_means}
use Rattle.zone.proofs.Zone.everything.Goals as goal

pub returns-clause-value : goal.returns-clause-value
returns-clause-value c = everything_is _ _ (search rules) (search rules) (search rules) (search rules) (search rules) (search rules)

pub returns-clause-meaning : goal.returns-clause-meaning
returns-clause-meaning c =
    let a = c.args in
    everything_means a.from a.to (returns-clause-value c)
