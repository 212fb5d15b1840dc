-- The change that starts the run, and the one that ends it, are found by two searches.
use Rattle.std.proofs.Common.{List, ℕ, min, max, ◌≡◌, ap, ◌∙◌, arith}
use Rattle.recording.proofs.Refusals.{read_end, read_room}
use Rattle.recording.specs.Reading.{IsRecording, ticks}
use Rattle.recording.specs.declared.Dimensions.{Dimensions}
use Rattle.runs.proofs.Scan.{early, next_none, next_found}
use Rattle.runs.proofs.next_run.Goals as goal

-- the search ends where the recording does, or before
cut : {bytes : List ℕ} {size : Dimensions} {end : ℕ} (to : ℕ) → IsRecording bytes size → end ≡ min to size.ticks → end ≡ min to (ticks bytes)
cut to read e = e ∙ ap (min to) (read_end read)

pub returns-then-end-a : goal.returns-then-end-a
returns-then-end-a c =
    next_none c.args.recording.now.recorded (cut c.args.to c.args.recording.now.recorded c.min-end.ensures) c.seek-first.ensures (omega (arith, c.if-end-a.true, c.begins-a.ensures))

pub overflow_add-first : goal.overflow_add-first
overflow_add-first c =
    let r = c.args.recording.now.recorded in
    let h = early c.args.recording.now.bytes.now c.seek-first.result (omega (arith, c.if-end-a.false, c.begins-a.ensures, cut c.args.to r c.min-end.ensures)) in omega (arith, h, read_room r c.seek-first.result h)

pub returns : goal.returns
returns c =
    next_found c.args.recording.now.recorded (cut c.args.to c.args.recording.now.recorded c.min-end.ensures) c.seek-first.ensures
    (omega (arith, c.if-end-a.false, c.begins-a.ensures)) c.seek-past.ensures
    (c.max.ensures ∙ ap (max c.args.from) c.begins-a.ensures)
    (c.min.ensures ∙ ap (min c.min-end.result) c.begins.ensures)
