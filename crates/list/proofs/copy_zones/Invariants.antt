use Rattle.std.proofs.Common.{◌*◌}
use Rattle.list.specs.Slots.{Copied}
use Rattle.list.proofs.copy_zones.Given as goal

abbrev pub invariant-loop-k : goal.invariant-loop-k
invariant-loop-k l = Copied l.from l.to (l.k * 6) l.initial.words l.words
