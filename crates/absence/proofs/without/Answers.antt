use Rattle.std.proofs.Common.{sym, subst, arith}
use Rattle.std.proofs.lemmas.Result.{err_from_is_err_and}
use Rattle.absence.proofs.Cutting.{begun_supply, begun_growable}
use Rattle.absence.proofs.Sharing.{parts_each_share}
use Rattle.absence.specs.Absence.{without}
use Rattle.list.proofs.Puts.{held}
use Rattle.operators.proofs.Listings.{begun_listing, begun_overflow}
use Rattle.pairs.proofs.Zones.{proper_one}
use Rattle.words.specs.Words.{zone_at}
use Rattle.zone.specs.Zone.{Proper}
use Rattle.absence.proofs.without.Goals as goal

pub put_each-requires : goal.put_each-requires
put_each-requires c =
    (begun_supply c.nothing.ensures c.requires.0, begun_growable c.nothing.ensures c.requires.0.slot (parts_each_share _ _ c.requires.2), subst (Proper 0 1_000_000) (sym (held _ _ c.copy_zone.ensures (omega arith))) (proper_one c.requires.1))

pub returns-in_err-g-clause-built : goal.returns-in_err-g-clause-built
unfolding without
returns-in_err-g-clause-built c =
    let p = err_from_is_err_and c.from_residual.result c.from_residual.ensures.1 in
    rw p.1 (begun_overflow _ _ _ c.nothing.ensures (rw (held (zone_at c.args.words.now c.args.cut) _ c.copy_zone.ensures (omega arith)) at c.in_err-g.ensures.grown))

pub returns : goal.returns
unfolding without
returns c = record {
  built = begun_listing _ _ _ c.nothing.ensures (rw (held (zone_at c.args.words.now c.args.cut) _ c.copy_zone.ensures (omega arith)) at c.in_ok-g.ensures.grown);
  kept = c.in_ok-g.ensures.kept;
}
