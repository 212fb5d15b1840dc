use Rattle.std.proofs.Common.{rules}
use Rattle.limit.proofs.Signed.{or_sum_is}
use Rattle.limit.proofs.or_sum.Goals as goal

pub returns : goal.returns
returns c = or_sum_is c.ranges.a c.ranges.b c.ranges.c (search rules) (search rules) c.sum.ensures c.lesser.ensures
