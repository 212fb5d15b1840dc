use Rattle.std.proofs.Common.{◌-◌}
use Rattle.extremes.proofs.Seeing.{Seeing}
use Rattle.extremes.proofs.ends_of.Given as goal

abbrev pub invariant-loop-i : goal.invariant-loop-i
invariant-loop-i l = Seeing l.words l.zones l.start l.seen l.i
