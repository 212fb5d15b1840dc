use Rattle.list.specs.Steps.{LookAs}
use Rattle.words.specs.Words.{zone_at}
use Rattle.list.proofs.look_over.Given as goal

abbrev pub invariant-loop-i : goal.invariant-loop-i
invariant-loop-i l = LookAs (zone_at l.w 0) l.words l.base l.i l.seen
