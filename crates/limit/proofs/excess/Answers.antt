use Rattle.std.proofs.Common.{arith}
use Rattle.limit.proofs.Signed.{odd_is, even_is}
use Rattle.limit.proofs.excess.Goals as goal

pub returns-then-a : goal.returns-then-a
returns-then-a c = (odd_is c.ranges.a c.ranges.b c.if-a.true, omega arith)

pub returns : goal.returns
returns c = even_is c.ranges.a c.ranges.b c.if-a.false
