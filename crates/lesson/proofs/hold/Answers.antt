-- The lesson of what was read is the lesson of the files.
use Rattle.std.proofs.Common.{arith}
use Rattle.files.proofs.Held.{held}
use Rattle.lessons.proofs.Lessons.{longer_lesson}
use Rattle.lesson.proofs.hold.Goals as goal

pub hold-held-requires : goal.hold-held-requires
hold-held-requires c =
    let some = c.requires in
    ((some.0, c.count.ensures some.0 _ some.1), omega arith, omega arith)

pub returns : goal.returns
returns c = record {
  lesson = λ drive text h s. record { number = _; answer = _; work = _; lesson = longer_lesson (held (omega arith) h) (rw c.bytes.ensures at (c.hold-held.ensures.lesson text (c.count.ensures text _ s))).defined };
  count = c.hold-held.ensures.count;
}
