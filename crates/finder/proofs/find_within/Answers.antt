-- `find_within` meets its contract: a recording that is refused, or what the call on one that was read comes to.
use Rattle.std.proofs.lemmas.Result.{err_from_is_err_and}
use Rattle.std.proofs.Common.{◌≡◌}
use Rattle.calls.specs.Refusals.{recording_refusal}
use Rattle.calls.proofs.Exchanged.{error_before, value_before}
use Rattle.calls.proofs.Finding.{recording_read}
use Rattle.finder.proofs.Demands.{promised_within}
use Rattle.finder.proofs.find_within.Goals as goal

pub returns-in_err-recording : goal.returns-in_err-recording
returns-in_err-recording c =
    let f = error_before (λ e d. d ≡ recording_refusal e) c.read.result c.in_err-recording.ensures.cases in
    let r = err_from_is_err_and c.from_residual.result c.from_residual.ensures.1 in
    let p = promised_within (recording_read c.args.recording.now c.args.drill.now c.args.left.now c.args.answer.now c.args.work.now f.0 (rw f.1 at c.read.ensures)) in
    rw (r.1, r.2, f.2) (record { demand1 = p.0; demand2 = p.1.0; demand3 = p.1.1 })

pub find_in-requires : goal.find_in-requires
find_in-requires c =
    let r = rw (value_before (λ e d. d ≡ recording_refusal e) c.read.result c.in_ok-recording.ensures.cases) at c.read.ensures in
    rw r.0 r.1

pub returns : goal.returns
returns c =
    let r = rw (value_before (λ e d. d ≡ recording_refusal e) c.read.result c.in_ok-recording.ensures.cases) at c.read.ensures in
    let p = promised_within (rw r.0 at c.find_in.ensures) in
    record { demand1 = p.0; demand2 = p.1.0; demand3 = p.1.1 }
