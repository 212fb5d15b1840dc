-- Document 02, CR 4 and CR 8: what a lesson prints, and what both buffers hold after it.
use Rattle.std.specs.Prelude.{◌≡◌, ◌↔◌, List, [], ◌∷◌, ℕ, ◌*◌, ◌<◌, ℤ, pos, replicate}
use Rattle.recording.specs.Reading.{RecordingCause}
use Rattle.outcome.specs.Outcome.{Err, Outcome}
use Rattle.outcome.specs.declared.Refusal.TheVariants.{RecordingLength, RecordingHead, RecordingChange, SheetForm}
use Rattle.outcome.specs.Outcome.{returned}
use Rattle.calls.specs.Causes.{First, NoCause}
use Rattle.calls.specs.Outcome.{largest, room}
use Rattle.marking.specs.Marking.{answer_words}
use Rattle.sheet.specs.Sheet.{refused}
use Rattle.lines.specs.Lines.{most_lines, Lined, Unlined}
use Rattle.results.specs.Results.{longest_result, Results, with_numbers}

-- the text of a lesson has at most so many bytes
abbrev pub longest_lesson : ℕ
longest_lesson = most_lines * longest_result

-- ---- before any drill

-- "12, no line, more than eight, an empty line or a last line without newline, checked after 3 and before any drill"
pub data LessonCause (bytes text : List ℕ) : Outcome → Type 0 where
  recording_length : RecordingCause largest bytes 1 → LessonCause bytes text (Err RecordingLength)
  recording_head : RecordingCause largest bytes 2 → LessonCause bytes text (Err RecordingHead)
  recording_change : RecordingCause largest bytes 3 → LessonCause bytes text (Err RecordingChange)
  sheet_form : Unlined text → LessonCause bytes text (Err SheetForm)

abbrev pub lesson_causes : List Outcome
lesson_causes = Err RecordingLength ∷ Err RecordingHead ∷ Err RecordingChange ∷ Err SheetForm ∷ []

-- ---- the whole

-- what a lesson returns, prints and leaves: "1, 2, 3 and 12 print once, alone" and leave both buffers as they were; else the results, "from 1"
pub data LessonAs (bytes text : List ℕ) (answer work : List ℤ) : (number : ℕ) (printed : List ℕ) (answer' work' : List ℤ) → Type 0 where
  turned_back : {o : Outcome} → First lesson_causes (LessonCause bytes text) o
      → LessonAs bytes text answer work (returned o).number (refused (returned o).number) answer work
  held : {drills results : List (List ℕ)} {answer' work' : List ℤ} → NoCause lesson_causes (LessonCause bytes text) → Lined text drills
      → Results bytes answer work drills results answer' work' → LessonAs bytes text answer work 0 (with_numbers 1 results) answer' work'

-- "Each is given when its cause holds and no earlier one does, and never otherwise": what is returned, printed and left is the lesson's, with its
-- number by its own list of causes
pub record Demand1Lesson (bytes text : List ℕ) (answer work : List ℤ) (number : ℕ) (printed : List ℕ) (answer' work' : List ℤ) : Type 0 where
  pub defined : LessonAs bytes text answer work number printed answer' work'
  pub refuses : (p : Outcome) → 0 < (returned p).number → (number ≡ (returned p).number) ↔ First lesson_causes (LessonCause bytes text) p
  pub accepts : (number ≡ 0) ↔ NoCause lesson_causes (LessonCause bytes text)

-- what the program `lesson` prints of a recording and a text: the lesson on buffers of zeroes, with some number and some contents of both buffers
pub record PrintedAs (bytes text printed : List ℕ) : Type 0 where
  pub number : ℕ
  pub answer : List ℤ
  pub work : List ℤ
  pub lesson : LessonAs bytes text (replicate answer_words (pos 0)) (replicate room (pos 0)) number printed answer work
