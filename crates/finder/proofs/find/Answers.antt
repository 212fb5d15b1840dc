-- `find` meets its contract: it is told more rounds than any drill begins, and so is never stopped.
use Rattle.std.proofs.Common.{arith}
use Rattle.finder.proofs.Demands.{promised_unlimited}
use Rattle.finder.proofs.find.Goals as goal

pub returns : goal.returns
returns c = let both = promised_unlimited (omega arith) c.find_within.ensures.demand1.defined in record { demand1 = both.0; demand2 = both.1.0; demand3 = both.1.1 }
