-- What is known of a text that came in chunks: its lines in a lent store, and beside it their number, the length of the rest and whether one is empty.
use Rattle.std.specs.Prelude.{◌≡◌, true, ◌↔◌, ℕ, ◌+◌, ◌*◌, ◌<◌, min, length, get_or, Option, Some, None}
use mathlib.Core.List.{List, [], Memᴰ}
use Rattle.lines.specs.declared.Taken.{Taken}
use Rattle.lines.specs.Lines.{most_lines, terminated, Lined, Unlined, Parted}

-- the bytes of a place, which holds one line: one more than the 255 of the longest drill, so that what is held of a longer line is too long as well
abbrev pub place_bytes : ℕ
place_bytes = 256

-- the bytes of the store: a place for each line of a sheet, place k from k × 256 on
abbrev pub store_bytes : ℕ
store_bytes = most_lines * place_bytes

-- place k begins with a line, or with as much of it as there is room for; the bytes behind it are free, they may be any
pub record Held (store : List ℕ) (k : ℕ) (line : List ℕ) : Type 0 where
  pub at : (i : ℕ) → i < place_bytes → i < length line → get_or store (k * place_bytes + i) 0 ≡ get_or line i 0

-- each line for which there is a place is held in it, with the newline that tells where it ends
abbrev pub Stored : (store : List ℕ) (lines : List (List ℕ)) → Type 0
Stored store lines = (k : ℕ) → k < most_lines → k < length lines → Held store k (terminated (get_or lines k []))

-- the state and the store sum up a text
pub record Sums (text store : List ℕ) (s : Taken) : Type 0 where
  pub lines : List (List ℕ)
  pub rest : List ℕ
  pub parted : Parted text lines rest
  -- nine lines are already too many, and a place is full at 256 bytes: nothing is counted further
  pub count : s.lines ≡ min (most_lines + 1) (length lines)
  pub begun : s.begun ≡ min place_bytes (length rest)
  pub empty : (s.empty ≡ true) ↔ Memᴰ [] lines
  pub stored : Stored store lines
  -- the rest is the beginning of the next line, and stands in that line's place
  pub next : length lines < most_lines → Held store (length lines) rest

-- the text is a sheet of n drills, which the store holds
pub record LinesAs (text store : List ℕ) (n : ℕ) : Type 0 where
  pub drills : List (List ℕ)
  pub lined : Lined text drills
  pub count : length drills ≡ n
  pub stored : Stored store drills

-- what a text counts as at its end: no sheet, or a sheet of so many lines
abbrev pub CountedAs : (text store : List ℕ) → Option ℕ → Type 0
CountedAs text store None = Unlined text
CountedAs text store (Some n) = LinesAs text store n
