-- `banded` meets its contract: the list is built two slots above, and brought back.
use Rattle.std.proofs.Common.{inl, inr, arith}
use Rattle.list.proofs.Slots.{kept_trans, kept_within}
use Rattle.values.proofs.Standings.{built_value, value_few, value_brought, kept_region, band_sound}
use Rattle.values.proofs.banded.Goals as goal

pub band-built-requires : goal.band-built-requires
band-built-requires c = (
  record {
    list = record { few = c.requires.0.few; room = omega (arith, c.requires.0.room); sound = c.requires.0.sound };
    target_free = omega (arith, c.requires.0.room);
    scratch_free = omega (arith, c.requires.0.room);
    target_apart = inl (omega arith);
    scratch_apart = inl (omega arith);
    both_apart = inr (omega arith);
  },
  rw c.range_band-band.ensures (band_sound _ _ c.args.range c.args.ticks.small),
)

pub brought-requires : goal.brought-requires
brought-requires c =
    let kept = c.band-built.ensures.kept in
    (rw c.unspent.ensures (value_few _ _ _ _ _ (built_value _ _ _ c.args.left c.band-built.result c.band-built.ensures.built)), omega (arith, kept.same_length), omega (arith, kept.same_length), inr (omega arith))

pub returns : goal.returns
returns c = record {
  value = value_brought _ _ _ _ _ _ _ _ (built_value _ _ _ c.args.left c.band-built.result (rw c.range_band-band.ensures at c.band-built.ensures.built)) (rw c.unspent.ensures at c.brought.ensures.brought);
  kept = kept_trans (kept_region (omega arith) (omega arith) (omega arith) (omega arith) c.band-built.ensures.kept) (kept_within (omega arith) (omega arith) c.brought.ensures.kept);
}
