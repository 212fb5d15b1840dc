-- What an operator asks of its operand.
use Rattle.std.specs.Prelude.{List, ℕ, ◌+◌, ◌*◌, ◌≤◌, ℤ, length}
use Rattle.list.specs.Insert.{capacity}
use Rattle.list.specs.Slots.{slot_words, list_at, Sound}

-- the finished list of an operand, n zones in the slot at `base`; the two slots behind it are free
pub record OperandAt (ws : List ℤ) (base n : ℕ) : Type 0 where
  pub few : n ≤ capacity
  pub room : base + 3 * slot_words ≤ length ws
  pub sound : Sound (list_at ws base n)
