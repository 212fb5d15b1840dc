use Rattle.zone.specs.Zone.{both}
use Rattle.zone.proofs.Zone.both.Goals as goal

pub returns : goal.returns
unfolding both
returns c = λ i. record { start = c.lesser.ensures i; nstart = c.lesser-2.ensures i; end = c.lesser-3.ensures i; nend = c.lesser-4.ensures i; length = c.lesser-5.ensures i; nlength = c.lesser-6.ensures i }
