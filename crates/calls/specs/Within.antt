-- A call that is told the rounds left: "each drill's call is told the rounds left and gives back those left after it".
use Rattle.std.specs.Prelude.{◌≡◌, List, [], ◌∷◌, ℕ, ℤ, length}
use Rattle.meaning.specs.Lists.{Value}
use Rattle.purse.specs.Purse.{Overflowing, Exceeding, Spending}
use Rattle.calls.specs.Causes as calls
use Rattle.calls.specs.Outcome.{
  Err,
  Outcome,
  RecordingLength,
  RecordingHead,
  RecordingChange,
  DrillLength,
  DrillForm,
  DrillLetter,
  DrillRange,
  DrillDepth,
  WorkShort,
  Overflow,
  AnswerShort,
  RoundsSpent,
  Left,
  both,
  answer-buffer,
  delivered,
  leaves,
  Finishes,
  Comes,
  CauseOf,
  BuffersAs,
}

-- the cause of each refusal: those of `find`, but 10 where no round beyond those left is begun, and "13, rounds spent, given at the round that
-- would be the 100,001st if 10 didn't come before"
abbrev pub CauseWithin : (bytes text : List ℕ) (left answer work : ℕ) → Outcome → Type 0
CauseWithin bytes text left answer work = CauseOf (Overflowing (Comes bytes text) left) (Exceeding (Comes bytes text) left) bytes text answer work

-- in the order in which they come: 13 in the building of the lists, as 10, and 11 when they are finished
abbrev pub refusals_within : List Outcome
refusals_within =
    Err RecordingLength ∷ Err RecordingHead ∷ Err RecordingChange ∷ Err DrillLength ∷ Err DrillForm ∷ Err DrillLetter ∷ Err DrillRange ∷ Err DrillDepth ∷ Err WorkShort ∷ Err Overflow ∷ Err RoundsSpent ∷ Err AnswerShort ∷ []

-- which outcome the call has
abbrev pub FirstWithin : (bytes text : List ℕ) (left answer work : ℕ) → Outcome → Type 0
FirstWithin bytes text left answer work = calls.First refusals_within (CauseWithin bytes text left answer work)

abbrev pub NoCauseWithin : (bytes text : List ℕ) (left answer work : ℕ) → Type 0
NoCauseWithin bytes text left answer work = calls.NoCause refusals_within (CauseWithin bytes text left answer work)

abbrev pub CallWithin : (bytes text : List ℕ) (left answer work : ℕ) → Outcome → Type 0
CallWithin bytes text left answer work = calls.CallAs refusals_within (CauseWithin bytes text left answer work) (Finishes (Comes bytes text))

-- the rounds left after it: all where both buffers are as they were, for then no list was begun; else "Finished rounds stay spent, a refused drill's too"
abbrev pub LeftAfter : (comes : Value → Type 0) (left left' : ℕ) → Left → Type 0
LeftAfter comes left left' both = left' ≡ left
LeftAfter comes left left' answer-buffer = Spending comes left left'
LeftAfter comes left left' delivered = Spending comes left left'

-- the whole of a call that is told the rounds left
pub record WithinAs (bytes text : List ℕ) (left : ℕ) (answer work : List ℤ) (o : Outcome) (left' : ℕ) (answer' work' : List ℤ) : Type 0 where
  pub outcome : CallWithin bytes text left (length answer) (length work) o
  pub buffers : BuffersAs bytes text o answer work answer' work'
  pub rounds : LeftAfter (Comes bytes text) left left' (leaves o)
