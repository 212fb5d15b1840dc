-- `hold` meets its contract: the refusal that is printed alone, or all results.
use Rattle.std.proofs.Common.{Err, rules, ℕ, List, arith}
use Rattle.calls.specs.Causes.{First, NoCause}
use Rattle.lessons.proofs.Lessons.{promised_lesson}
use Rattle.lessons.proofs.Printing.{alone, alone_stands, all, all_stand}
use Rattle.lessons.specs.Lessons.{LessonCause, lesson_causes}
use Rattle.lines.specs.Taken.{LinesAs, CountedAs}
use Rattle.text.proofs.Buffer.{from_begin}
use Rattle.lessons.proofs.hold.Goals as goal

pub results-written-requires : goal.results-written-requires
results-written-requires c =
    let lines = (rw c.in-Ok.is at (c.judge.ensures c.requires.0.0 _ c.requires.0.1)).1 in
    (omega (arith, lines.lined.few, lines.count), c.requires.1)

pub returns-in-Err : goal.returns-in-Err
returns-in-Err c =
    let some = c.requires.0 in
    let first : (text : List ℕ) → CountedAs text c.args.store.now c.args.sheet → First lesson_causes (LessonCause c.args.recording.now text) (Err c.in-Err.refusal) =
    λ text h. rw c.in-Err.is at (c.judge.ensures text _ h) in
    record {
      lesson = λ text h. promised_lesson (alone (first text h) _ c.requires.2 (from_begin c.begin-text.ensures.begins c.append.ensures (search rules)) c.unwrap_or.ensures c.number.ensures);
      count = (alone_stands (first some.0 some.1) _ c.requires.2 (from_begin c.begin-text.ensures.begins c.append.ensures (search rules)) c.unwrap_or.ensures).1.0;
      rest = (alone_stands (first some.0 some.1) _ c.requires.2 (from_begin c.begin-text.ensures.begins c.append.ensures (search rules)) c.unwrap_or.ensures).1.1;
    }

pub returns-in-Ok : goal.returns-in-Ok
returns-in-Ok c =
    let some = c.requires.0 in
    let judged : (text : List ℕ) → CountedAs text c.args.store.now c.args.sheet → NoCause lesson_causes (LessonCause c.args.recording.now text) × LinesAs text c.args.store.now c.in-Ok.n =
    λ text h. rw c.in-Ok.is at (c.judge.ensures text _ h) in
    let stands = (all_stand (judged some.0 some.1).1 c.requires.2 c.results-written.ensures c.unwrap_or-in-Ok.ensures).1 in
    record {
      lesson = λ text h. promised_lesson (all (judged text h).1 c.requires.2 c.results-written.ensures c.unwrap_or-in-Ok.ensures (judged text h).0);
      count = stands.0;
      rest = stands.1;
    }
