use Rattle.std.specs.Prelude.{pos}
use Rattle.limit.specs.declared.Limit.TheVariants.{Below}
use Rattle.zone.proofs.Means.{run_means}
use Rattle.zone.specs.Zone.{everything, run}
use Rattle.zone.proofs.Zone.run.Goals as goal

pub returns-clause-value : goal.returns-clause-value
unfolding everything run
returns-clause-value c =
    let all = c.everything.ensures.value in
    λ i. record { start = c.less.ensures.value i; nstart = (all i).nstart; end = (all i).end; nend = c.more.ensures.value i; length = (all i).length; nlength = Below (pos 0) }

pub returns-clause-meaning : goal.returns-clause-meaning
returns-clause-meaning c =
    let a = c.args in
    run_means a.from a.to (returns-clause-value c)
