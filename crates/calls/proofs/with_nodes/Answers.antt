-- `with_nodes` meets its contract: the parser answers a refusal, or the tree that is worked out.
use Rattle.std.proofs.lemmas.Result.{err_from_is_err_and}
use Rattle.std.proofs.Common.{◌≡◌, Ok, Err}
use Rattle.calls.specs.Steps.{drill_refusal}
use Rattle.calls.proofs.Exchanged.{error_before, value_before}
use Rattle.calls.proofs.Finding.{drill_read, found}
use Rattle.expression.proofs.Laws.{root_planted}
use Rattle.calls.proofs.with_nodes.Goals as goal

pub returns-in_err-root : goal.returns-in_err-root
returns-in_err-root g c =
    let f = error_before (λ e d. d ≡ drill_refusal e) c.parse.result c.in_err-root.ensures.cases in
    let r = err_from_is_err_and c.from_residual.result c.from_residual.ensures.1 in
    rw (r.1, r.2, f.2) (drill_read _ _ c.requires.read _ c.args.left.now c.args.answer.now c.args.work.now c.parse.new.nodes f.0 (rw (f.1, c.from-channels.ensures) at c.parse.ensures))

pub work_out-requires : goal.work_out-requires
work_out-requires g c =
    let p = rw (value_before (λ e d. d ≡ drill_refusal e) c.parse.result c.in_ok-root.ensures.cases, c.from-channels.ensures) at c.parse.ensures in
    record { expression = p.0; planted = root_planted p.1 p.2 }

pub returns-in_err-work_out : goal.returns-in_err-work_out
returns-in_err-work_out g c =
    let p = rw (value_before (λ e d. d ≡ drill_refusal e) c.parse.result c.in_ok-root.ensures.cases, c.from-channels.ensures) at c.parse.ensures in
    let r = err_from_is_err_and c.from_residual-in_err-work_out.result c.from_residual-in_err-work_out.ensures.1 in
    rw (r.1, r.2) (found _ _ c.requires.read _ _ _ _ p.1 (Err c.in_err-work_out.field-0.0) (c.in_err-work_out.ensures.each p.0 (root_planted p.1 p.2)))

pub returns : goal.returns
returns g c =
    let p = rw (value_before (λ e d. d ≡ drill_refusal e) c.parse.result c.in_ok-root.ensures.cases, c.from-channels.ensures) at c.parse.ensures in
    found _ _ c.requires.read _ _ _ _ p.1 (Ok c.in_ok-work_out.field-0) (c.in_ok-work_out.ensures.each p.0 (root_planted p.1 p.2))
