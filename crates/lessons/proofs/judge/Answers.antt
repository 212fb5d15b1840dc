-- `judge` meets its contract: what reading the recording answers decides, and then the lines.
use Rattle.std.proofs.lemmas.Result.{err_from_is_err_and}
use Rattle.std.proofs.Common.{◌≡◌}
use Rattle.calls.specs.Refusals.{recording_refusal}
use Rattle.calls.proofs.Exchanged.{error_before, value_before}
use Rattle.lessons.proofs.Judging.{wrong_recording, judged}
use Rattle.lessons.proofs.judge.Goals as goal

pub returns-in_err-map_err : goal.returns-in_err-map_err
returns-in_err-map_err c text store h =
    let f = error_before (λ e d. d ≡ recording_refusal e) c.read.result c.in_err-map_err.ensures.cases in
    let r = err_from_is_err_and c.from_residual.result c.from_residual.ensures.1 in
    rw (r.1, r.2, f.2) (wrong_recording _ text f.0 (rw f.1 at c.read.ensures))

pub returns : goal.returns
returns c text store h =
    let r = rw (value_before (λ e d. d ≡ recording_refusal e) c.read.result c.in_ok-map_err.ensures.cases) at c.read.ensures in
    rw c.ok_or.ensures.value (judged text store r.1 c.args.sheet h)
