-- `longest` meets its contract: the length of the ticks, or the limit of hi.
use Rattle.std.proofs.Common.{arith}
use Rattle.values.proofs.Standings.{upper_small}
use Rattle.values.proofs.longest.Goals as goal

pub most-requires : goal.most-requires
most-requires c = omega (arith, c.args.ticks.small)

pub upper_limit-requires : goal.upper_limit-requires
upper_limit-requires c = upper_small c.args.range _ c.in-Some.is c.requires

pub returns-in-None : goal.returns-in-None
returns-in-None c = rw c.in-None.is c.most.ensures.value

pub returns-in-Some : goal.returns-in-Some
returns-in-Some c = rw c.in-Some.is c.upper_limit.ensures
