use Rattle.zone.specs.Zone.{tighter}
use Rattle.zone.proofs.Zone.tighter.Goals as goal

pub returns : goal.returns
unfolding tighter
returns c = λ i. record { start = c.or_sum.ensures i; nstart = c.or_sum-2.ensures i; end = c.or_sum-3.ensures i; nend = c.or_sum-4.ensures i; length = c.or_sum-5.ensures i; nlength = c.or_sum-6.ensures i }
