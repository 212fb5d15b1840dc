use Rattle.hulls.proofs.Hulls.{Written}
use Rattle.hulls.proofs.write_hulls.Given as goal

abbrev pub invariant-loop-b : goal.invariant-loop-b
invariant-loop-b l = Written l.hulls l.words l.base l.n l.b
