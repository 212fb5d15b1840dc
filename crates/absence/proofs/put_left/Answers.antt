use Rattle.std.proofs.Common.{arith}
use Rattle.absence.proofs.Cutting.{none_put}
use Rattle.list.proofs.Puts.{held}
use Rattle.list.proofs.Slots.{kept_refl}
use Rattle.zone.proofs.Laws.{ranged}
use Rattle.absence.proofs.put_left.Goals as goal

pub returns-in_default : goal.returns-in_default
returns-in_default c =
    record {
      grown = rw c.in_default.is (none_put c.args.words.now c.args.target c.args.g c.requires.0);
      kept = kept_refl c.args.target 768 c.args.words.now;
    }

pub write_zone-requires : goal.write_zone-requires
write_zone-requires c = (omega arith, ranged (rw c.in-Some.is at c.requires.1).0)

pub grow_apart-requires : goal.grow_apart-requires
grow_apart-requires c =
    let z = c.in-Some.z in
    (c.requires.0, rw (held z _ c.write_zone.ensures (omega arith)) (rw c.in-Some.is at c.requires.1).1)

pub returns : goal.returns
returns c =
    record {
      grown = rw c.in-Some.is (rw (held c.in-Some.z _ c.write_zone.ensures (omega arith)) at c.grow_apart.ensures.grown);
      kept = c.grow_apart.ensures.kept;
    }
