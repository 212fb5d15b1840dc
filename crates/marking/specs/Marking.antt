-- What is printed for a recording and a drill.
use Rattle.std.specs.Prelude.{◌≡◌, List, ℕ, ◌*◌, ℤ, pos, replicate}
use Rattle.words.specs.Words.{zone_words}
use Rattle.list.specs.Insert.{capacity}
use Rattle.outcome.specs.Outcome.{Outcome}
use Rattle.outcome.specs.Outcome.{returned, front_of}
use Rattle.calls.specs.Outcome.{room, FindAs}
use Rattle.sheet.specs.Sheet.{sheet}

-- the answer words that are lent: those of a list that is full
abbrev pub answer_words : ℕ
answer_words = capacity * zone_words

-- the sheet of the outcome that a call has, on buffers of zeroes, and of the zones in front of its answer
pub record MarkedAs (bytes text printed : List ℕ) : Type 0 where
  pub outcome : Outcome
  pub answer : List ℤ
  pub work : List ℤ
  pub call : FindAs bytes text (replicate answer_words (pos 0)) (replicate room (pos 0)) outcome answer work
  pub sheet : printed ≡ sheet (returned outcome) (front_of answer (returned outcome).zones)
