-- `sheet::append`: a refusal or a finished list.
use Rattle.std.proofs.Common.{Ok, Err, refl, sym, ◌∙◌}
use Rattle.outcome.specs.Outcome.{returned}
use Rattle.outcome.proofs.Numbers.{number_range}
use Rattle.sheet.proofs.Sheet.{refusal_sheet, finished_sheet}
use Rattle.sheet.proofs.append.Goals as goal

pub finished-requires : goal.finished-requires
finished-requires c = rw c.in-Ok.is at c.requires

pub returns-in-Err : goal.returns-in-Err
returns-in-Err c =
    let r = c.in-Err.refusal in
    rw (c.in-Err.is, (refusal_sheet (Err r) (number_range r).0 c.args.front.now).0, sym (c.from.ensures ∙ c.number.ensures)) c.refused.ensures

pub returns-in-Ok : goal.returns-in-Ok
returns-in-Ok c = rw (c.in-Ok.is, finished_sheet (returned (Ok c.in-Ok.list)) c.args.front.now refl) c.finished.ensures
