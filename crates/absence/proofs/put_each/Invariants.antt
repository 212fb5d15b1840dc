use Rattle.absence.proofs.Cutting.{Replacing}
use Rattle.words.specs.Words.{zone_at}
use Rattle.absence.proofs.put_each.Given as goal

abbrev pub invariant-loop-i : goal.invariant-loop-i
invariant-loop-i l = Replacing (zone_at l.cut 0) l.source l.n l.initial.grown l.target l.initial.words l.i l.words l.grown
