-- `lines::count`: the four causes of 12.
use Rattle.std.proofs.Common.{arith}
use Rattle.lines.proofs.Taking.{of_sheet}
use Rattle.lines.proofs.count.Goals as goal

pub returns-then-state : goal.returns-then-state
returns-then-state c text store h drills l = grind (arith, of_sheet h l)
