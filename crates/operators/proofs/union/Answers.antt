use Rattle.std.proofs.lemmas.Result.{err_from_is_err_and}
use Rattle.growing.proofs.Going.{grown_stands}
use Rattle.list.proofs.Slots.{kept_trans, list_there}
use Rattle.operators.proofs.Listings.{begun_operands, begun_listing, begun_overflow, union_left_overflow, union_right_overflow, union_listing}
use Rattle.pairs.proofs.Zones.{still_supply}
use Rattle.operators.proofs.union.Goals as goal

pub each_zone-requires : goal.each_zone-requires
each_zone-requires c = let o = begun_operands c.requires c.nothing.ensures in (o.0.lefts, o.1)

pub returns-in_err-lefts-clause-built : goal.returns-in_err-lefts-clause-built
returns-in_err-lefts-clause-built c =
    let p = err_from_is_err_and c.from_residual.result c.from_residual.ensures.1 in
    rw p.1 (union_left_overflow _ _ (begun_overflow _ _ _ c.nothing.ensures c.in_err-lefts.ensures.grown))

pub each_zone-requires-2 : goal.each_zone-requires-2
each_zone-requires-2 c =
    let grown = c.in_ok-lefts.ensures.grown in
    let kept = c.in_ok-lefts.ensures.kept in
    (still_supply c.requires.rights kept grown.holds.few, grown_stands c.requires.lefts.slot kept grown)

pub returns-in_err-all : goal.returns-in_err-all
returns-in_err-all c =
    let lefts = begun_listing _ _ _ c.nothing.ensures c.in_ok-lefts.ensures.grown in
    let p = err_from_is_err_and c.from_residual-in_err-all.result c.from_residual-in_err-all.ensures.1 in record {
      built = rw p.1 (union_right_overflow _ _ lefts (list_there c.args.right c.args.m c.each_zone.ensures.kept c.requires.rights.apart c.requires.rights.list.few) c.in_err-all.ensures.grown);
      kept = kept_trans c.each_zone.ensures.kept c.each_zone-2.ensures.kept;
    }

pub returns : goal.returns
returns c =
    let lefts = begun_listing _ _ _ c.nothing.ensures c.in_ok-lefts.ensures.grown in record {
      built = union_listing _ _ lefts (list_there c.args.right c.args.m c.each_zone.ensures.kept c.requires.rights.apart c.requires.rights.list.few) c.in_ok-all.ensures.grown;
      kept = kept_trans c.each_zone.ensures.kept c.each_zone-2.ensures.kept;
    }
