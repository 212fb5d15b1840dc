use Rattle.list.specs.Steps.{Sifting}
use Rattle.words.specs.Words.{zone_at}
use Rattle.list.proofs.remove_inside.Given as goal

abbrev pub invariant-loop-i : goal.invariant-loop-i
invariant-loop-i l = Sifting (zone_at l.w 0) l.base l.count l.initial.words l.words l.kept l.i
