use Rattle.std.proofs.Common.{arith}
use Rattle.std.proofs.lemmas.Result.{err_from_is_err_and}
use Rattle.list.proofs.Copies.{copy_order, kept_one, both_trans}
use Rattle.star.proofs.Closings.{begun_kept, begun_work, begun_list, begun_ending, ending_room, ending_apart, star_overflow, star_closed, stopped_star, stopped_free}
use Rattle.zone.specs.Zone.{diagonal}
use Rattle.star.proofs.star.Goals as goal

pub copy_zones-requires : goal.copy_zones-requires
copy_zones-requires c = (omega arith, omega arith, copy_order c.requires.target_apart c.requires.list.few)

pub all_rounds-requires : goal.all_rounds-requires
all_rounds-requires c =
    let work = c.requires in
    (begun_work work c.copy_zones.ensures, begun_list work c.copy_zones.ensures)

pub returns-in_err-last : goal.returns-in_err-last
returns-in_err-last c =
    let work = c.requires in
    let p = err_from_is_err_and c.from_residual.result c.from_residual.ensures.1 in
    let ended = c.in_err-last.ensures.ended in record {
      closed = rw (p.1, p.2) (stopped_star work c.copy_zones.ensures _ _ (diagonal c.args.ticks.from c.args.ticks.to) c.in_err-last.field-0.0 ended);
      kept = both_trans (kept_one (begun_kept work c.copy_zones.ensures)) c.all_rounds.ensures.kept;
      free = stopped_free work c.copy_zones.ensures c.args.told _ c.in_err-last.field-0.0 ended;
    }

pub close-requires : goal.close-requires
close-requires c =
    let w = c.in_ok-last.ensures.ended in
    (record { few = w.standing.holds.few; room = ending_room w.place w.first_free w.second_free; sound = w.sound }, w.first_free, ending_apart w.place c.requires.both_apart)

pub returns-in_default : goal.returns-in_default
returns-in_default c =
    let work = c.requires in
    let w = c.in_ok-last.ensures.ended in
    let k = c.close.ensures.kept in record {
      closed = star_overflow (diagonal c.args.ticks.from c.args.ticks.to) (begun_ending work c.copy_zones.ensures w) c.in_default.ensures.built;
      kept = both_trans (kept_one (begun_kept work c.copy_zones.ensures)) (both_trans c.all_rounds.ensures.kept (kept_one k));
      free = (omega (arith, w.first_free, k.same_length), omega (arith, w.second_free, k.same_length));
    }

pub returns : goal.returns
returns c =
    let work = c.requires in
    let w = c.in_ok-last.ensures.ended in
    let k = c.close.ensures.kept in record {
      closed = star_closed (diagonal c.args.ticks.from c.args.ticks.to) (begun_ending work c.copy_zones.ensures w) c.in-Ok.ensures.built;
      kept = both_trans (kept_one (begun_kept work c.copy_zones.ensures)) (both_trans c.all_rounds.ensures.kept (kept_one k));
      free = (omega (arith, w.first_free, k.same_length), omega (arith, w.second_free, k.same_length));
    }
