-- What a stored drill comes to in the lent buffers.
use Rattle.std.specs.Prelude.{Result, Ok, Err, ◌≡◌, List, ℕ, ◌*◌, ◌≤◌, ◌<◌, ℤ, length}
use Rattle.words.specs.Words.{zone_words}
use Rattle.recording.specs.declared.Dimensions.{Dimensions}
use Rattle.runs.specs.Levels.{Shows}
use Rattle.expression.specs.Expression.{Expression}
use Rattle.expression.specs.Planted.{Planted}
use Rattle.meaning.specs.Lists.{Value, Evaluates}
use Rattle.purse.specs.Purse.{Overflowing, Exceeding, Spending}
use Rattle.outcome.specs.declared.Finished.{Finished}
use Rattle.outcome.specs.declared.Refusal.{Refusal}
use Rattle.outcome.specs.declared.Refusal.TheVariants as refusal
use Rattle.delivery.specs.declared.Shortage.{Shortage}
use Rattle.delivery.specs.declared.Shortage.TheVariants.{WorkShort, Overflow, RoundsSpent, AnswerShort}
use Rattle.delivery.specs.Buffers.{room, NoRoom, BothKept, AnswerKept, Delivered}

-- the refusal of a call by each shortage
abbrev pub refusal_of : Shortage → Refusal
refusal_of WorkShort = refusal.WorkShort
refusal_of Overflow = refusal.Overflow
refusal_of RoundsSpent = refusal.RoundsSpent
refusal_of AnswerShort = refusal.AnswerShort

-- a stored drill worked out, where `comes` says to which value its expression comes and so many rounds are told: which of 9, 10, 13, 11 and the
-- finished list, with the rounds left and both buffers
abbrev pub WorkedAs : (comes : Value → Type 0) (told : ℕ) → Result Finished Shortage → (left : ℕ) (answer work answer' work' : List ℤ) → Type 0
WorkedAs comes told (Err WorkShort) left answer work answer' work' = (length work < room) × (left ≡ told) × BothKept answer work answer' work'
WorkedAs comes told (Err Overflow) left answer work answer' work' =
    (room ≤ length work) × Overflowing comes told × Spending comes told left × AnswerKept answer work answer' work'
WorkedAs comes told (Err RoundsSpent) left answer work answer' work' =
    (room ≤ length work) × Exceeding comes told × Spending comes told left × AnswerKept answer work answer' work'
WorkedAs comes told (Err AnswerShort) left answer work answer' work' =
    (room ≤ length work) × ((n : NoRoom comes (length answer)) × (n.1 ≤ told)) × Spending comes told left × AnswerKept answer work answer' work'
WorkedAs comes told (Ok f) left answer work answer' work' =
    (room ≤ length work) × ((f.zones * zone_words ≤ length answer) × (f.rounds ≤ told)) × Spending comes told left × Delivered comes f.zones f.rounds answer work answer' work'

-- the same of whichever expression is stored at the root
pub record Works (bytes nodes : List ℕ) (size : Dimensions) (root told : ℕ) (w : Result Finished Shortage) (left : ℕ) (answer work answer' work' : List ℤ) : Type 0 where
  pub each : (e : Expression) → Planted nodes size.channels root 16 e
      → WorkedAs (Evaluates (Shows bytes) 0 size.ticks e) told w left answer work answer' work'
