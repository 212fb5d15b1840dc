use Rattle.std.proofs.Common.{arith}
use Rattle.std.proofs.lemmas.Result.{err_from_is_err_and}
use Rattle.list.proofs.Copies.{copy_order}
use Rattle.list.proofs.Slots.{kept_trans}
use Rattle.star.proofs.Closings.{round_kept, round_operands, round_overflow, round_changes, round_pairs, round_same}
use Rattle.star.proofs.one_round.Goals as goal

pub copy_zones-requires : goal.copy_zones-requires
copy_zones-requires c = (omega arith, omega arith, copy_order c.requires.lefts.apart c.requires.lefts.list.few)

pub each_pair-requires : goal.each_pair-requires
each_pair-requires c = round_operands c.requires c.copy_zones.ensures c.standing-old.ensures.begins c.standing-old.ensures.late

pub returns-in_err-g : goal.returns-in_err-g
returns-in_err-g c =
    let p = err_from_is_err_and c.from_residual.result c.from_residual.ensures.1 in record {
      round = rw p.1 (round_overflow c.requires c.copy_zones.ensures c.standing-old.ensures.begins c.in_err-g.ensures.grown);
      kept = kept_trans (round_kept c.requires c.copy_zones.ensures) c.each_pair.ensures.kept;
    }

pub returns-then-g-eq0-clause-round : goal.returns-then-g-eq0-clause-round
returns-then-g-eq0-clause-round c =
    let same = round_same c.requires c.copy_zones.ensures c.standing-old.ensures.begins c.in_ok-g.ensures.grown c.in_ok-g.ensures.kept c.if-g-eq0.true in
    ((same.0, same.2), same.1)

pub returns-else-g-eq0-clause-round : goal.returns-else-g-eq0-clause-round
returns-else-g-eq0-clause-round c =
    let begins = c.standing-old.ensures.begins in
    let grown = c.in_ok-g.ensures.grown in
    (round_changes c.requires c.copy_zones.ensures begins grown c.if-g-eq0.false, round_pairs c.requires c.copy_zones.ensures begins grown)
