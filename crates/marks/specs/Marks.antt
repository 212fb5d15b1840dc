-- What `marks` prints for two files.
use Rattle.std.specs.Prelude.{List, ℕ}
use Rattle.files.specs.Files.{trimmed, HoldsFile}
use Rattle.marking.specs.Marking.{MarkedAs}

-- for whatever files `drive` and `text` the two buffers hold, in full or in part
abbrev pub Marks : (recording : List ℕ) (n : ℕ) (drill : List ℕ) (m : ℕ) (printed : List ℕ) → Type 0
Marks recording n drill m printed = (drive text : List ℕ) → HoldsFile recording n drive → HoldsFile drill m text → MarkedAs drive (trimmed text) printed
