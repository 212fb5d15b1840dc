-- The three demands, as the contract of a call cites them.
use Rattle.std.specs.Prelude.{◌≡◌, ◌↔◌, ℕ, ◌+◌, ◌-◌, ◌≤◌, ◌<◌, ℤ, length}
use mathlib.Core.List.{List, [], ◌∷◌, ◌++◌, Memᴰ}
use Rattle.limit.specs.Time.{Time}
use Rattle.zone.specs.declared.Zone.{Zone}
use Rattle.zone.specs.Zone.{In, Includes}
use Rattle.star.specs.Pieces.{Pieces}
use Rattle.list.specs.Members.{Lies, AllProper}
use Rattle.list.specs.Slots.{list_at}
use Rattle.recording.specs.Reading.{ticks}
use Rattle.runs.specs.Levels.{Shows}
use Rattle.runs.specs.declared.Level.{Level}
use Rattle.expression.specs.declared.Unary.TheVariants.{Star}
use Rattle.expression.specs.Expression.{Expression, unary}
use Rattle.expression.specs.Grammar.{Form, alternative}
use Rattle.meaning.specs.Fits.{FitsOn, Fits}
use Rattle.meaning.specs.Lists.{repeated, RoundsOf, Sum}
use Rattle.calls.specs.Outcome.{Err, Outcome, RecordingLength, RecordingHead, RecordingChange, DrillLength, DrillForm, DrillLetter, DrillRange, DrillDepth, Overflow, returned, Cause, First, NoCause, front_of, FindAs}
use Rattle.calls.specs.Within.{FirstWithin, NoCauseWithin, WithinAs}

-- ==== Demand 1: the outcome and both buffers are the defined ones. "Each is given when its cause holds and no earlier one does, and never
-- otherwise. A drill is accepted where no cause holds"

pub record Demand1 (bytes text : List ℕ) (answer work : List ℤ) (o : Outcome) (answer' work' : List ℤ) : Type 0 where
  pub defined : FindAs bytes text answer work o answer' work'
  pub refuses : (p : Outcome) → 0 < (returned p).number → ((returned o).number ≡ (returned p).number) ↔ First bytes text (length answer) (length work) p
  pub accepts : ((returned o).number ≡ 0) ↔ NoCause bytes text (length answer) (length work)

-- the same of a call that is told the rounds left, over its own list of causes, with the rounds left after it; and "A drill not stopped lists
-- exactly what it lists when run by itself"
pub record Demand1Within (bytes text : List ℕ) (left : ℕ) (answer work : List ℤ) (o : Outcome) (left' : ℕ) (answer' work' : List ℤ) : Type 0 where
  pub defined : WithinAs bytes text left answer work o left' answer' work'
  pub refuses : (p : Outcome) → 0 < (returned p).number → ((returned o).number ≡ (returned p).number) ↔ FirstWithin bytes text left (length answer) (length work) p
  pub accepts : ((returned o).number ≡ 0) ↔ NoCauseWithin bytes text left (length answer) (length work)
  pub alone : ¬ ((returned o).number ≡ 13) → FindAs bytes text answer work o answer' work'

-- ==== Demand 2

-- some zone of the list holds a stretch, of any fractions, exactly if the stretch fits the drill; every zone is tight and inside 0..d, none is empty,
-- none lies inside another, at whichever two places they stand
pub record Exact (bytes text : List ℕ) (L : List Zone) : Type 0 where
  pub drill : Expression
  pub form : Form alternative text drill
  pub exact : (x y : Time) → Lies L x y ↔ Fits bytes drill x y
  pub proper : AllProper 0 (ticks bytes) L
  pub some : (z : Zone) → Memᴰ z L → (x : Time) × (y : Time) × In z x y
  pub apart : {z w : Zone} (A B C : List Zone) → L ≡ A ++ (z ∷ (B ++ (w ∷ C))) → (¬ Includes z w) × (¬ Includes w z)

-- of an accepted call: of the zones read back from the front of the answer
abbrev pub Demand2 : (bytes text : List ℕ) → Outcome → (answer' : List ℤ) → Type 0
Demand2 bytes text o answer' = (returned o).number ≡ 0 → Exact bytes text (list_at (front_of answer' (returned o).zones) 0 (returned o).zones)

-- ==== Demand 3

-- of one `*` whose part repeated is f: its rounds, the last included, are at most n + d, n the zones of the finished inner list; every
-- stretch that fits is cut into at most n + d consecutive pieces that each fit f
pub record Bounded (Shows : ℕ → Level → ℕ → Type 0) (from to : ℕ) (f : Expression) : Type 0 where
  pub rounds : ℕ
  pub made : RoundsOf Shows from to f rounds
  pub few : rounds ≤ length made.inner + (to - from)
  pub pieces : (x y : Time) → FitsOn Shows from to (unary Star f) x y
      → (n : ℕ) × (n ≤ length made.inner + (to - from)) × Pieces (FitsOn Shows from to f) n x y

-- of a recording and a drill: every `*` written, and the sum over all of them
pub record Total (bytes text : List ℕ) (total : ℕ) : Type 0 where
  pub drill : Expression
  pub form : Form alternative text drill
  pub each : (f : Expression) → Memᴰ f (repeated drill) → Bounded (Shows bytes) 0 (ticks bytes) f
  pub sum : Sum (RoundsOf (Shows bytes) 0 (ticks bytes)) (repeated drill) total

-- the causes that recording and drill alone decide, 1 to 8 and 10; they ask nothing of the buffers
abbrev pub inputs : List Outcome
inputs =
    Err RecordingLength ∷ Err RecordingHead ∷ Err RecordingChange ∷ Err DrillLength ∷ Err DrillForm ∷ Err DrillLetter ∷ Err DrillRange ∷ Err DrillDepth ∷ Err Overflow ∷ []

abbrev pub NoInputCause : (bytes text : List ℕ) → Type 0
NoInputCause bytes text = (p : Outcome) → Memᴰ p inputs → ¬ Cause bytes text 0 0 p

-- where none of those causes holds there is one total, whatever the buffers; and an accepted call reports it
pub record Demand3 (bytes text : List ℕ) (o : Outcome) : Type 0 where
  pub bounded : NoInputCause bytes text → (total : ℕ) × Total bytes text total × ((n : ℕ) → Total bytes text n → n ≡ total)
  pub reported : (returned o).number ≡ 0 → Total bytes text (returned o).rounds
