use Rattle.zone.specs.Zone.{limited}
use Rattle.zone.proofs.Zone.limited.Goals as goal

pub returns : goal.returns
unfolding limited
returns c =
    let z = c.args.self in
    λ i. record { start = z.start; nstart = z.nstart; end = z.end; nend = z.nend; length = c.lesser.ensures i; nlength = c.lesser-2.ensures i }
