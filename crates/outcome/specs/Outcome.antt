-- "Turned back": what each outcome returns and leaves; and the filled front of an answer.
use Rattle.std.specs.Prelude.{cond, List, [], ℕ, ◌*◌, leb, ℤ, length, take, Result}
pub use Rattle.std.specs.Prelude.{Ok, Err}
use Rattle.words.specs.Words.{zone_words}
pub use Rattle.outcome.specs.declared.Returned.{Returned}
pub use Rattle.outcome.specs.declared.Finished.{Finished}
pub use Rattle.outcome.specs.declared.Refusal.{Refusal}
pub use Rattle.outcome.specs.declared.Refusal.TheVariants.{
  RecordingLength,
  RecordingHead,
  RecordingChange,
  DrillLength,
  DrillForm,
  DrillLetter,
  DrillRange,
  DrillDepth,
  WorkShort,
  Overflow,
  AnswerShort,
  SheetForm,
  RoundsSpent,
}

-- what a call comes to: a finished list, or a refusal
abbrev pub Outcome : Type 0
Outcome = Result Finished Refusal

-- ---- what is returned

-- the table's numbers, and those of the requests after it
abbrev pub number_of : Refusal → ℕ
number_of RecordingLength = 1
number_of RecordingHead = 2
number_of RecordingChange = 3
number_of DrillLength = 4
number_of DrillForm = 5
number_of DrillLetter = 6
number_of DrillRange = 7
number_of DrillDepth = 8
number_of WorkShort = 9
number_of Overflow = 10
number_of AnswerShort = 11
number_of SheetForm = 12
number_of RoundsSpent = 13

-- "number, 0 zones, 0 rounds"; an accepted call "returns 0, the number of zones and the total of rounds"
abbrev pub returned : Outcome → Returned
returned (Err r) = record { number = number_of r; zones = 0; rounds = 0 }
returned (Ok f) = record { number = 0; zones = f.zones; rounds = f.rounds }

-- ---- what is left in the buffers

-- the table's column "Left as it was": both buffers, or the answer buffer, "work as below"; an accepted call delivers its list
pub data Left : Type 0 where
  both answer-buffer delivered : Left

abbrev pub leaves : Outcome → Left
leaves (Err RecordingLength) = both
leaves (Err RecordingHead) = both
leaves (Err RecordingChange) = both
leaves (Err DrillLength) = both
leaves (Err DrillForm) = both
leaves (Err DrillLetter) = both
leaves (Err DrillRange) = both
leaves (Err DrillDepth) = both
leaves (Err WorkShort) = both
leaves (Err Overflow) = answer-buffer
leaves (Err AnswerShort) = answer-buffer
-- 13 is "returned and left as by 10"; "Any other new number .. leaves both buffers as they were"
leaves (Err SheetForm) = both
leaves (Err RoundsSpent) = answer-buffer
leaves (Ok f) = delivered

-- ---- the front of an answer

-- "told the number of zones, the filled front of the lent answer buffer comes back; told more zones than the buffer can hold, .. the empty front"
unfoldable pub front_of : List ℤ → ℕ → List ℤ
front_of answer zones = cond (leb (zones * zone_words) (length answer)) (take (zones * zone_words) answer) []
