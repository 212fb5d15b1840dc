-- The promises of each call, with what is returned in a number and lent places.
use Rattle.std.specs.Prelude.{◌≡◌, List, ◌∷◌, ℕ, ◌≤◌, ℤ, length, take, drop}
use Rattle.outcome.specs.Outcome.{Outcome}
use Rattle.outcome.specs.Outcome.{returned}
use Rattle.finder.specs.Demands.{Demand1, Demand1Within, Demand2, Demand3}
use Rattle.lessons.specs.Lessons.{Demand1Lesson}

-- a call was made: its number is answered, its zones and rounds are the first two counts, and the demands hold
pub record Called (bytes text : List ℕ) (answer work : List ℤ) (counts : List ℕ) (number : ℕ) (answer' work' : List ℤ) (counts' : List ℕ) : Type 0 where
  pub outcome : Outcome
  pub number_is : number ≡ (returned outcome).number
  pub counts_are : counts' ≡ (returned outcome).zones ∷ (returned outcome).rounds ∷ drop 2 counts
  pub demand1 : Demand1 bytes text answer work outcome answer' work'
  pub demand2 : Demand2 bytes text outcome answer'
  pub demand3 : Demand3 bytes text outcome

-- what is answered where no call is made: no refusal has this number
abbrev pub no_call : ℕ
no_call = 4_294_967_295

-- none was made: all is as it was
pub record Uncalled (answer work : List ℤ) (counts : List ℕ) (number : ℕ) (answer' work' : List ℤ) (counts' : List ℕ) : Type 0 where
  pub number_is : number ≡ no_call
  pub answer_kept : answer' ≡ answer
  pub work_kept : work' ≡ work
  pub counts_kept : counts' ≡ counts

-- ---- the call that is told the rounds left

pub record CalledWithin (bytes text : List ℕ) (left : ℕ) (answer work : List ℤ) (counts : List ℕ) (number left' : ℕ) (answer' work' : List ℤ) (counts' : List ℕ) : Type 0 where
  pub outcome : Outcome
  pub number_is : number ≡ (returned outcome).number
  pub counts_are : counts' ≡ (returned outcome).zones ∷ (returned outcome).rounds ∷ drop 2 counts
  pub demand1 : Demand1Within bytes text left answer work outcome left' answer' work'
  pub demand2 : Demand2 bytes text outcome answer'
  pub demand3 : Demand3 bytes text outcome

pub record UncalledWithin (left : ℕ) (answer work : List ℤ) (counts : List ℕ) (number left' : ℕ) (answer' work' : List ℤ) (counts' : List ℕ) : Type 0 where
  pub uncalled : Uncalled answer work counts number answer' work' counts'
  pub left_kept : left' ≡ left

-- ---- the lesson

-- the number and what is printed are the lesson's, in the first `size'` bytes; those behind them are as they were
pub record CalledLesson (bytes text : List ℕ) (answer work : List ℤ) (out : List ℕ) (number : ℕ) (answer' work' : List ℤ) (out' : List ℕ) (size' : ℕ) : Type 0 where
  pub demand1 : Demand1Lesson bytes text answer work number (take size' out') answer' work'
  pub room : size' ≤ length out'
  pub rest : drop size' out' ≡ drop size' out

pub record UncalledLesson (answer work : List ℤ) (out : List ℕ) (size number : ℕ) (answer' work' : List ℤ) (out' : List ℕ) (size' : ℕ) : Type 0 where
  pub number_is : number ≡ no_call
  pub answer_kept : answer' ≡ answer
  pub work_kept : work' ≡ work
  pub out_kept : out' ≡ out
  pub size_kept : size' ≡ size
