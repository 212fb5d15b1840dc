-- What `lesson` prints for two files.
use Rattle.std.specs.Prelude.{List, ℕ}
use Rattle.files.specs.Files.{HoldsFile}
use Rattle.lines.specs.declared.Taken.{Taken}
use Rattle.lines.specs.Taken.{Sums}
use Rattle.lessons.specs.Lessons.{PrintedAs}

-- for whatever drive the buffer holds, in full or in part, and whatever text the state sums up, however it was cut into chunks
abbrev pub Prints : (recording : List ℕ) (n : ℕ) (sheet : Taken) (store printed : List ℕ) → Type 0
Prints recording n sheet store printed = (drive text : List ℕ) → HoldsFile recording n drive → Sums text store sheet → PrintedAs drive text printed
