-- The state sums up what was read so far.
use Rattle.std.proofs.Common.{List, ℕ}
use Rattle.lines.specs.Taken.{Sums}
use Rattle.lesson.proofs.read_sheet.Given as goal

abbrev pub invariant-loop : goal.invariant-loop
invariant-loop g l = (text : List ℕ) × Sums text l.store l.sheet
