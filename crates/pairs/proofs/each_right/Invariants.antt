use Rattle.std.proofs.Common.{◌+◌, ◌-◌, ◌*◌}
use Rattle.list.specs.Slots.{list_at}
use Rattle.pairs.proofs.Combining.{Combining}
use Rattle.pairs.specs.Pairs.{beside}
use Rattle.words.specs.Words.{zone_at}
use Rattle.pairs.proofs.each_right.Given as goal

abbrev pub invariant-loop-j : goal.invariant-loop-j
invariant-loop-j g l = Combining g.C.Combine.op (beside (zone_at l.initial.words l.left) (list_at l.initial.words (l.right + l.j * 6) (l.m - l.j))) (beside (zone_at l.initial.words l.left) (list_at l.initial.words l.right l.m)) l.initial.grown l.target l.initial.words l.words l.grown
