use Rattle.std.proofs.Common.{sym, subst, arith}
use Rattle.std.proofs.lemmas.Result.{err_from_is_err_and}
use Rattle.growing.proofs.Going.{standing_stands}
use Rattle.list.proofs.Slots.{kept_trans}
use Rattle.list.specs.Slots.{Sound}
use Rattle.star.proofs.Closings.{put_overflow, put_listing}
use Rattle.zone.proofs.Laws.{ranged, ranged_more, proper_diagonal}
use Rattle.zone.specs.Zone.{diagonal}
use Rattle.star.proofs.close.Goals as goal

pub bring-requires : goal.bring-requires
bring-requires c = let p = c.requires in (p.0.few, p.0.room, p.1, p.2)

pub grow-requires : goal.grow-requires
grow-requires c =
    let p = c.requires in (
      standing_stands c.standing.ensures.begins c.standing.ensures.late (record { few = p.0.few; room = omega (arith, p.1, c.bring.ensures.kept.same_length) }) (subst Sound (sym c.bring.ensures.list) p.0.sound),
      rw c.diagonal-diagonal.ensures.value (ranged_more c.args.ticks.small (ranged (proper_diagonal _ _ c.args.ticks.forward))),
    )

pub returns-in_err-g-clause-built : goal.returns-in_err-g-clause-built
returns-in_err-g-clause-built c =
    let p = err_from_is_err_and c.from_residual.result c.from_residual.ensures.1 in
    rw p.1 (put_overflow (diagonal c.args.ticks.from c.args.ticks.to) _ _ _ c.standing.ensures.begins c.bring.ensures.list (rw c.diagonal-diagonal.ensures.value at c.in_err-g.ensures.grown))

pub returns : goal.returns
returns c = record {
  built = put_listing (diagonal c.args.ticks.from c.args.ticks.to) _ _ _ c.standing.ensures.begins c.bring.ensures.list (rw c.diagonal-diagonal.ensures.value at c.in_ok-g.ensures.grown);
  kept = kept_trans c.bring.ensures.kept c.in_ok-g.ensures.kept;
}
