use Rattle.std.proofs.Common.{ap}
use Rattle.limit.specs.Limit.{nought}
use Rattle.zone.proofs.Means.{diagonal_means}
use Rattle.zone.specs.Zone.{Zone, everything, diagonal}
use Rattle.zone.proofs.Zone.diagonal.Goals as goal

pub returns-clause-value : goal.returns-clause-value
unfolding everything diagonal
returns-clause-value c =
    ap (λ (z : Zone). record { start = z.start; nstart = z.nstart; end = z.end; nend = z.nend; length = nought; nlength = z.nlength }) c.everything.ensures.value

pub returns-clause-meaning : goal.returns-clause-meaning
returns-clause-meaning c =
    let a = c.args in
    diagonal_means a.from a.to (returns-clause-value c)
