-- `point` meets its contract: one put into an empty list.
use Rattle.std.proofs.Common.{arith}
use Rattle.growing.proofs.Going.{begun_stands}
use Rattle.operators.proofs.Listings.{begun_listing, begun_overflow}
use Rattle.values.proofs.Standings.{stands, over}
use Rattle.zone.proofs.Laws.{proper_diagonal, ranged, ranged_more}
use Rattle.primaries.proofs.point.Goals as goal

pub grow-requires : goal.grow-requires
grow-requires c =
    (begun_stands c.nothing.ensures (record { few = omega arith; room = c.requires }), rw c.diagonal-diagonal.ensures.value (ranged_more c.args.ticks.small (ranged (proper_diagonal _ _ c.args.ticks.forward))))

pub returns-in_default : goal.returns-in_default
returns-in_default c = record {
  value = over _ (begun_overflow _ _ _ c.nothing.ensures (rw c.diagonal-diagonal.ensures.value at c.in_default.ensures.grown)).0;
  kept = c.grow.ensures.kept;
}

pub returns : goal.returns
returns c = record {
  value = stands _ (begun_listing _ _ _ c.nothing.ensures (rw c.diagonal-diagonal.ensures.value at c.in-Ok.ensures.grown));
  kept = c.grow.ensures.kept;
}
