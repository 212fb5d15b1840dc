use Rattle.std.proofs.Common.{arith, [], refl, sym, subst}
use Rattle.list.proofs.Copies.{kept_both, kept_neither, disjoint_swap}
use Rattle.list.proofs.Puts.{holds_same}
use Rattle.list.proofs.Slots.{list_there, still_source, still_empty}
use Rattle.list.specs.Slots.{list_at, Sound}
use Rattle.operators.proofs.Listings.{written_kept, written_alone, sound_one}
use Rattle.operators.specs.Operators.{banded, meets}
use Rattle.zone.proofs.Laws.{ranged}
use Rattle.operators.proofs.band.Goals as goal

pub returns-in_default : goal.returns-in_default
unfolding banded list_at
returns-in_default c = record {
  built = rw c.in_default.is (record { list = []; value = refl; holds = holds_same _ _ 0 (omega arith) });
  kept = kept_neither _ _ _;
  free = omega arith;
}

pub write_zone-requires : goal.write_zone-requires
write_zone-requires c = (omega arith, ranged (rw c.in-Some.is at c.requires.1))

pub meets-requires : goal.meets-requires
meets-requires c =
    let work = c.requires.0 in
    let f = written_kept c.in-Some.z _ _ work.scratch_free c.write_zone.ensures in
    let alone = written_alone c.in-Some.z _ _ work.scratch_free c.write_zone.ensures in
    let sound = subst Sound (sym alone) (sound_one (rw c.in-Some.is at c.requires.1)) in
    record {
      lefts = record { list = still_source _ _ work.list f work.scratch_apart; slot = still_empty f work.target_free; apart = work.target_apart };
      rights =
          record {
            list = record { few = omega arith; room = omega (arith, f.same_length, work.scratch_free); sound = sound };
            slot = still_empty f work.target_free;
            apart = disjoint_swap work.both_apart;
          };
    }

pub returns : goal.returns
unfolding banded meets
returns c =
    let work = c.requires.0 in
    let f = written_kept c.in-Some.z _ _ work.scratch_free c.write_zone.ensures in
    let same = list_there c.args.source c.args.n f work.scratch_apart work.list.few in record {
      built = rw c.in-Some.is (rw (same, written_alone c.in-Some.z _ _ work.scratch_free c.write_zone.ensures) at c.meets.ensures.built);
      kept = kept_both f c.meets.ensures.kept;
      free = omega (arith, work.scratch_free, f.same_length, c.meets.ensures.kept.same_length);
    }
