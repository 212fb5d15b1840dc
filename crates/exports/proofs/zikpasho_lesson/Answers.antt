-- The promises of `lessons::hold` on the lines of the text; or no call.
use Rattle.std.proofs.Common.{refl, arith}
use Rattle.exports.proofs.zikpasho_lesson.Goals as goal

pub returns-then-out-lt-LONGEST : goal.returns-then-out-lt-LONGEST
returns-then-out-lt-LONGEST c = record {
  call = λ h. absurd (omega (arith, c.if-out-lt-LONGEST.true));
  none = λ h. record { number_is = refl; answer_kept = refl; work_kept = refl; out_kept = refl; size_kept = refl };
}

pub returns : goal.returns
returns c = record {
  call = λ h. record { demand1 = c.hold-held.ensures.lesson _ c.lines_of-sheet.ensures.counted; room = c.hold-held.ensures.count.0; rest = c.hold-held.ensures.rest };
  none = λ h. absurd (omega (arith, c.if-out-lt-LONGEST.false));
}
