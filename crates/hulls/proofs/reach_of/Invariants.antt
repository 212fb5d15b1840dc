use Rattle.hulls.specs.Hulls.{Covers}
use Rattle.list.specs.Slots.{list_at}
use Rattle.hulls.proofs.reach_of.Given as goal

abbrev pub invariant-loop-j : goal.invariant-loop-j
invariant-loop-j l = Covers l.start l.nstart (list_at l.words l.at l.j)
