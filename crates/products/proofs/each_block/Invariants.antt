use Rattle.std.proofs.Common.{◌+◌, ◌-◌, ◌*◌}
use Rattle.list.specs.Slots.{list_at}
use Rattle.pairs.proofs.Combining.{Combining}
use Rattle.pairs.specs.Pairs.{beside}
use Rattle.words.specs.Words.{zone_at}
use Rattle.products.proofs.each_block.Given as goal

abbrev pub invariant-loop-b : goal.invariant-loop-b
invariant-loop-b g l = Combining g.C.Combine.op (beside (zone_at l.initial.words l.left) (list_at l.initial.words (l.right + l.b * 16 * 6) (l.m - l.b * 16))) (beside (zone_at l.initial.words l.left) (list_at l.initial.words l.right l.m)) l.initial.grown l.target l.initial.words l.words l.grown
