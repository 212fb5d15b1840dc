use Rattle.std.specs.Prelude.{Some}
use Rattle.std.proofs.Common.{map, ◌≡◌, ◌+◌, ◌-◌, ◌*◌}
use Rattle.growing.proofs.Going.{Going}
use Rattle.list.specs.Insert.{insert_each}
use Rattle.list.specs.Slots.{list_at}
use Rattle.operators.proofs.each_zone.Given as goal

abbrev pub invariant-loop-i : goal.invariant-loop-i
invariant-loop-i l = (l.grown.pairs ≡ l.initial.grown.pairs) × Going (map Some (list_at l.initial.words (l.source + l.i * 6) (l.n - l.i))) (insert_each (map Some (list_at l.initial.words l.source l.n)) (list_at l.initial.words l.target l.initial.grown.count)) l.initial.grown (list_at l.initial.words l.target l.initial.grown.count) l.target l.initial.words l.words l.grown
