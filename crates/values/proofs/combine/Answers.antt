-- `combine` meets its contract: the list is built two slots above, and brought back.
use Rattle.std.proofs.Common.{inl, inr, arith}
use Rattle.list.proofs.Slots.{kept_trans, kept_within}
use Rattle.values.proofs.Standings.{built_value, value_few, value_brought}
use Rattle.values.proofs.combine.Goals as goal

pub build-built-requires : goal.build-built-requires
build-built-requires c =
    let left = c.requires.0 in
    record {
      lefts = record { list = record { few = left.few; room = omega (arith, left.room); sound = left.sound }; slot = record { few = omega arith; room = omega (arith, left.room) }; apart = inl (omega arith) };
      rights = record { list = c.requires.1; slot = record { few = omega arith; room = omega (arith, left.room) }; apart = inl (omega arith) };
    }

pub brought-requires : goal.brought-requires
brought-requires c =
    let kept = c.build-built.ensures.kept in
    (rw c.unspent.ensures (value_few _ _ _ _ _ (built_value _ _ _ c.args.left c.build-built.result c.build-built.ensures.built)), omega (arith, kept.same_length), omega (arith, kept.same_length), inr (omega arith))

pub returns : goal.returns
returns c = record {
  value = value_brought _ _ _ _ _ _ _ _ (built_value _ _ _ c.args.left c.build-built.result c.build-built.ensures.built) (rw c.unspent.ensures at c.brought.ensures.brought);
  kept = kept_trans (kept_within (omega arith) (omega arith) c.build-built.ensures.kept) (kept_within (omega arith) (omega arith) c.brought.ensures.kept);
}
