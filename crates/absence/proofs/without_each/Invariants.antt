use Rattle.absence.proofs.Alternating.{Alternating}
use Rattle.absence.proofs.without_each.Given as goal

abbrev pub invariant-loop-i : goal.invariant-loop-i
invariant-loop-i l = Alternating l.initial.words l.base l.n l.i l.words l.here l.there l.count
