-- Document 02, CR 8: "A drill's result therefore depends on the recording and its own text alone, and swapping two lines of a sheet only swaps their
-- results".
use Rattle.std.specs.Prelude.{◌≡◌, List, [], ◌∷◌, ℕ, ◌<◌, ℤ, length, get_or}
use Rattle.lines.specs.Lines.{terminated}
use Rattle.results.specs.Results.{with_numbers}
use Rattle.lessons.specs.Lessons.{LessonAs}

-- a drill's result by itself: what a sheet of its line alone prints behind the number, on buffers of so many words, whatever these hold
pub record ByItself (bytes : List ℕ) (answer-size work-size : ℕ) (drill result : List ℕ) : Type 0 where
  pub lesson : (answer work : List ℤ) → length answer ≡ answer-size → length work ≡ work-size
      → (answer' : List ℤ) × (work' : List ℤ) × LessonAs bytes (terminated drill) answer work 0 (with_numbers 1 (result ∷ [])) answer' work'

-- a printed text has for each drill its result by itself, behind its number
pub record LineByLine (bytes : List ℕ) (answer-size work-size : ℕ) (drills : List (List ℕ)) (printed : List ℕ) : Type 0 where
  pub results : List (List ℕ)
  pub text : printed ≡ with_numbers 1 results
  pub as_many : length results ≡ length drills
  pub each : (k : ℕ) → k < length drills → ByItself bytes answer-size work-size (get_or drills k []) (get_or results k [])

-- those at places i and j are exchanged, and all others stay
pub record Exchanged (i j : ℕ) (before after : List (List ℕ)) : Type 0 where
  pub as_many : length after ≡ length before
  pub first : get_or after i [] ≡ get_or before j []
  pub second : get_or after j [] ≡ get_or before i []
  pub others : (k : ℕ) → k < length before → ¬ (k ≡ i) → ¬ (k ≡ j) → get_or after k [] ≡ get_or before k []
