-- `text::Text::integer`: a minus sign only where the number is below 0.
use Rattle.std.proofs.Common.{sym}
use Rattle.std.proofs.Math.Facts.{to_z-of_z}
use Rattle.text.proofs.Buffer.{◌then◌}
use Rattle.text.proofs.Signed.{integer_below, integer_plain}
use Rattle.text.proofs.Text.integer.Goals as goal
use Rattle.text.proofs.Text.integer.Goals.{then-v-lt0, else-v-lt0}

pub returns : goal.returns
returns c =
    let read = to_z-of_z c.ranges.v in
    let size = rw read at c.unsigned_abs.ensures.value in
    elim c.if-v-lt0.branch [
      | then-v-lt0 w ↦ rw (integer_below _ (rw read at w.if-v-lt0.true), sym size) (w.put.ensures then (rw w.self-is at c.decimal.ensures))
      | else-v-lt0 w ↦ rw (integer_plain _ (rw read at w.if-v-lt0.false), sym size) (rw w.self-is at c.decimal.ensures)
    ]
