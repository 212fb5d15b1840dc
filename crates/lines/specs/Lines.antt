-- Document 02, CR 4: "A sheet is text of one to eight lines, each a drill ended by a newline".
use Rattle.std.specs.Prelude.{◌≡◌, ℕ, ◌≤◌, length}
use mathlib.Core.List.{List, [], ◌∷◌, ◌++◌, Memᴰ}

-- "one to eight lines"
abbrev pub most_lines : ℕ
most_lines = 8

-- the byte of a newline
abbrev pub newline : ℕ
newline = 10

-- a line "ended by a newline"
abbrev pub terminated : List ℕ → List ℕ
terminated line = line ++ (newline ∷ [])

-- the lines one after the other, each with its newline
unfoldable pub joined : List (List ℕ) → List ℕ
joined [] = []
joined (l ∷ ls) = terminated l ++ joined ls

-- no newline stands in the text
abbrev pub Unbroken : List ℕ → Type 0
Unbroken s = ¬ Memᴰ newline s

-- the text is a sheet, and these are its drills. Any line that is not empty counts as a drill here; whether it is refused is asked later, of it alone
pub record Lined (text : List ℕ) (drills : List (List ℕ)) : Type 0 where
  -- the last has its newline too, and nothing stands behind it
  pub whole : text ≡ joined drills
  -- each is one line ..
  pub plain : (d : List ℕ) → Memᴰ d drills → Unbroken d
  -- .. and none is empty
  pub filled : ¬ Memᴰ [] drills
  pub some : 1 ≤ length drills
  pub few : length drills ≤ most_lines

-- the text is no sheet: "12, no line, more than eight, an empty line or a last line without newline"
abbrev pub Unlined : List ℕ → Type 0
Unlined text = (drills : List (List ℕ)) → ¬ Lined text drills

-- what any text is while it comes in: the lines that a newline ended, and the rest behind the last newline
pub record Parted (text : List ℕ) (lines : List (List ℕ)) (rest : List ℕ) : Type 0 where
  pub whole : text ≡ joined lines ++ rest
  pub plain : (l : List ℕ) → Memᴰ l lines → Unbroken l
  pub last : Unbroken rest
