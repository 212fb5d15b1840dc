use Rattle.std.proofs.Common.{rules}
use Rattle.limit.proofs.Signed.{less_fits, sum_is}
use Rattle.limit.proofs.sum.Goals as goal

pub overflow_sub-result : goal.overflow_sub-result
overflow_sub-result c = less_fits c.ranges.a c.ranges.b c.requires.0 c.requires.1 c.excess.result (search rules) c.excess.ensures.1

pub returns : goal.returns
returns c = sum_is c.ranges.a c.ranges.b c.requires.0 c.requires.1 c.excess.result (search rules) c.excess.ensures.1 c.excess.ensures.0
