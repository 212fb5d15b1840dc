-- The sheet of what was read is the sheet of the files.
use Rattle.std.proofs.Common.{arith, ap, ◌∙◌}
use Rattle.files.specs.Files.{trimmed}
use Rattle.marks.proofs.Files.{of_files}
use Rattle.marks.proofs.mark.Goals as goal

pub returns : goal.returns
returns c = record {
  sheet = of_files (omega arith) (omega arith) (c.drill_of-text.ensures ∙ ap trimmed c.bytes.ensures) (rw c.bytes-2.ensures at c.sheet_of.ensures.sheet);
  count = c.sheet_of.ensures.count;
}
