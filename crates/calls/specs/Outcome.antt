-- "Turned back": which outcome a call of `find` has, and what both buffers hold afterwards. What each outcome returns and leaves is in `outcome`.
use Rattle.std.specs.Prelude.{List, [], ◌∷◌, ℕ, ◌<◌, ℤ, length}
use Rattle.recording.specs.Reading.{ticks, channels, RecordingCause}
use Rattle.runs.specs.Levels.{Shows}
use Rattle.expression.specs.Expression.{Expression}
use Rattle.expression.specs.Grammar.{Form, alternative}
use Rattle.expression.specs.Refusal.{DrillCause}
use Rattle.meaning.specs.Lists.{Value, overflow, Evaluates}
use Rattle.calls.specs.Causes as calls
pub use Rattle.delivery.specs.Buffers.{room, NoRoom, Finishes, words, fronted, zeroed, cleared, BothKept, AnswerKept, Delivered}
pub use Rattle.outcome.specs.declared.Returned.{Returned}
pub use Rattle.outcome.specs.declared.Finished.{Finished}
pub use Rattle.outcome.specs.declared.Refusal.{Refusal}
pub use Rattle.outcome.specs.declared.Refusal.TheVariants.{
  RecordingLength,
  RecordingHead,
  RecordingChange,
  DrillLength,
  DrillForm,
  DrillLetter,
  DrillRange,
  DrillDepth,
  WorkShort,
  Overflow,
  AnswerShort,
  SheetForm,
  RoundsSpent,
}
pub use Rattle.outcome.specs.Outcome.{Outcome, Ok, Err, number_of, returned, Left, both, answer-buffer, delivered, leaves, front_of}

-- ---- the causes

-- the text is an expression that comes to the value on the recording, from tick 0 to d
pub record Comes (bytes text : List ℕ) (v : Value) : Type 0 where
  pub drill : Expression
  pub form : Form alternative text drill
  pub evaluates : Evaluates (Shows bytes) 0 (ticks bytes) drill v

-- a recording has at most so many bytes
abbrev pub largest : ℕ
largest = 32768

-- the cause of each refusal, of the bytes of the recording, the text of the drill and the lengths of both buffers. Each call says of rounds when
-- it `overflows`, and when they are `spent`
abbrev pub CauseOf : (overflows spent : Type 0) (bytes text : List ℕ) (answer work : ℕ) → Outcome → Type 0
-- "recording of length 0, over 32,768 or not a multiple of 8", "head wrong in any field", "a change wrong in any field"
CauseOf overflows spent bytes text answer work (Err RecordingLength) = RecordingCause largest bytes 1
CauseOf overflows spent bytes text answer work (Err RecordingHead) = RecordingCause largest bytes 2
CauseOf overflows spent bytes text answer work (Err RecordingChange) = RecordingCause largest bytes 3
-- "drill of length 0 or over 255", "drill not of the form above", "a letter at or beyond the channel count",
-- "lo or hi above 1,000,000, or lo > hi" and "Equal lo and hi with a `<` on either", "depth above 16"
CauseOf overflows spent bytes text answer work (Err DrillLength) = DrillCause text (channels bytes) 4
CauseOf overflows spent bytes text answer work (Err DrillForm) = DrillCause text (channels bytes) 5
CauseOf overflows spent bytes text answer work (Err DrillLetter) = DrillCause text (channels bytes) 6
CauseOf overflows spent bytes text answer work (Err DrillRange) = DrillCause text (channels bytes) 7
CauseOf overflows spent bytes text answer work (Err DrillDepth) = DrillCause text (channels bytes) 8
-- "work buffer under 16,384 words"
CauseOf overflows spent bytes text answer work (Err WorkShort) = work < room
CauseOf overflows spent bytes text answer work (Err Overflow) = overflows
-- "answer buffer under 6 words a zone"
CauseOf overflows spent bytes text answer work (Err AnswerShort) = NoRoom (Comes bytes text) answer
-- a sheet's, and no drill's
CauseOf overflows spent bytes text answer work (Err SheetForm) = ⊥
CauseOf overflows spent bytes text answer work (Err RoundsSpent) = spent
CauseOf overflows spent bytes text answer work (Ok f) = ⊥

-- those of `find`: "a put would leave a list of 129 zones", after however many rounds; it has no limit on rounds
abbrev pub Cause : (bytes text : List ℕ) (answer work : ℕ) → Outcome → Type 0
Cause bytes text answer work = CauseOf ((b : ℕ) × (f : ℕ) × Comes bytes text (overflow b f)) ⊥ bytes text answer work

-- "Checked in the order of the numbers"
abbrev pub refusals : List Outcome
refusals =
    Err RecordingLength ∷ Err RecordingHead ∷ Err RecordingChange ∷ Err DrillLength ∷ Err DrillForm ∷ Err DrillLetter ∷ Err DrillRange ∷ Err DrillDepth ∷ Err WorkShort ∷ Err Overflow ∷ Err AnswerShort ∷ []

-- ---- which outcome a call of `find` has: the first cause of its list, or no cause and the finished list

abbrev pub First : (bytes text : List ℕ) (answer work : ℕ) → Outcome → Type 0
First bytes text answer work = calls.First refusals (Cause bytes text answer work)

abbrev pub NoCause : (bytes text : List ℕ) (answer work : ℕ) → Type 0
NoCause bytes text answer work = calls.NoCause refusals (Cause bytes text answer work)

abbrev pub CallAs : (bytes text : List ℕ) (answer work : ℕ) → Outcome → Type 0
CallAs bytes text answer work = calls.CallAs refusals (Cause bytes text answer work) (Finishes (Comes bytes text))

-- ---- what both buffers hold afterwards

-- what a call leaves, by the column
abbrev pub LeftAs : (comes : Value → Type 0) → Returned → Left → (answer work answer' work' : List ℤ) → Type 0
LeftAs comes r both = BothKept
LeftAs comes r answer-buffer = AnswerKept
LeftAs comes r delivered = Delivered comes r.zones r.rounds

abbrev pub BuffersAs : (bytes text : List ℕ) → Outcome → (answer work answer' work' : List ℤ) → Type 0
BuffersAs bytes text o = LeftAs (Comes bytes text) (returned o) (leaves o)

-- the whole of a call of `find`
pub record FindAs (bytes text : List ℕ) (answer work : List ℤ) (o : Outcome) (answer' work' : List ℤ) : Type 0 where
  pub outcome : CallAs bytes text (length answer) (length work) o
  pub buffers : BuffersAs bytes text o answer work answer' work'
