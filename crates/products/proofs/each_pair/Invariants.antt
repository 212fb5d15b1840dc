use Rattle.std.proofs.Common.{◌+◌, ◌-◌, ◌*◌}
use Rattle.list.specs.Slots.{list_at}
use Rattle.pairs.proofs.Combining.{Combining}
use Rattle.pairs.specs.Pairs.{crossed}
use Rattle.products.proofs.each_pair.Given as goal

abbrev pub invariant-loop-i : goal.invariant-loop-i
invariant-loop-i g l = Combining g.C.Combine.op (crossed (list_at l.initial.words (l.left + l.i * 6) (l.n - l.i)) (list_at l.initial.words l.right l.m)) (crossed (list_at l.initial.words l.left l.n) (list_at l.initial.words l.right l.m)) l.initial.grown l.target l.initial.words l.words l.grown
