use Rattle.words.specs.Words.{zone_at}
use Rattle.words.proofs.read_zone.Goals as goal

pub returns : goal.returns
unfolding zone_at
returns c = λ i. record { start = c.limit_at.ensures i; nstart = c.limit_at-2.ensures i; end = c.limit_at-3.ensures i; nend = c.limit_at-4.ensures i; length = c.limit_at-5.ensures i; nlength = c.limit_at-6.ensures i }
