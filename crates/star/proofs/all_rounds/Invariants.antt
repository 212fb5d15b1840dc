use Rattle.std.proofs.Common.{◌-◌, ◌≤◌}
use Rattle.star.proofs.Turning.{Turning}
use Rattle.star.proofs.all_rounds.Given as goal

-- the rounds made are those no longer left
abbrev pub invariant-loop-left : goal.invariant-loop-left
invariant-loop-left l = (l.left ≤ l.told) × Turning l.inner l.m l.first l.second l.initial.words l.words l.list l.copy l.n (l.told - l.left)

abbrev pub decreases-loop-left : goal.decreases-loop-left
decreases-loop-left l = l.left
