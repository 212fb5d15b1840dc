-- `star` meets its contract: the list is built one slot above, and brought back.
use Rattle.std.proofs.Common.{inl, inr, arith}
use Rattle.list.proofs.Slots.{kept_trans, kept_within}
use Rattle.values.proofs.Standings.{value_few, value_brought, kept_region}
use Rattle.values.proofs.star.Goals as goal

pub star-starred-requires : goal.star-starred-requires
star-starred-requires c = record {
  list = record { few = c.requires.few; room = omega (arith, c.requires.room); sound = c.requires.sound };
  target_free = omega (arith, c.requires.room);
  scratch_free = omega (arith, c.requires.room);
  target_apart = inl (omega arith);
  scratch_apart = inl (omega arith);
  both_apart = inl (omega arith);
}

pub brought-requires : goal.brought-requires
brought-requires c =
    let kept = c.star-starred.ensures.kept in
    (value_few _ _ _ _ c.star-starred.result c.star-starred.ensures.closed, omega (arith, kept.same_length), omega (arith, kept.same_length), inr (omega arith))

pub returns : goal.returns
returns c = record {
  value = value_brought _ _ _ _ _ _ c.star-starred.result _ c.star-starred.ensures.closed c.brought.ensures.brought;
  kept = kept_trans (kept_region (omega arith) (omega arith) (omega arith) (omega arith) c.star-starred.ensures.kept) (kept_within (omega arith) (omega arith) c.brought.ensures.kept);
}
