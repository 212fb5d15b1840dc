use Rattle.list.specs.Slots.{Copied}
use Rattle.list.proofs.move_down.Given as goal

abbrev pub invariant-loop-k : goal.invariant-loop-k
invariant-loop-k l = Copied 6 0 l.k l.initial.part l.part
