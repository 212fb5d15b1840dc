-- A value and the rounds told: "a drill that would start a round beyond them is stopped", "if 10 didn't come before".
use Rattle.std.specs.Prelude.{◌≡◌, List, ℕ, ◌+◌, ◌-◌, ◌≤◌, ◌<◌, ℤ, Result, Ok, Err}
use Rattle.zone.specs.declared.Zone.{Zone}
use Rattle.list.specs.Slots.{Holds}
use Rattle.purse.specs.declared.Listed.{Listed}
use Rattle.purse.specs.declared.Stopped.{Stopped}
use Rattle.purse.specs.declared.Stopped.TheVariants.{Overflow, Spent}
use Rattle.purse.specs.Value.{Value, value, overflow, begun, spent}

-- the slot at `base` holds the list of a value that `comes` allows, whose rounds are spent; its words behind the list are free
pub record Standing (comes : Value → Type 0) (told : ℕ) (ws : List ℤ) (base count left : ℕ) : Type 0 where
  pub list : List Zone
  pub rounds : ℕ
  pub means : comes (value list rounds)
  pub spends : rounds + left ≡ told
  pub holds : Holds ws base count list

-- it overflows, and begins no round beyond those told
pub record Overflowing (comes : Value → Type 0) (told : ℕ) : Type 0 where
  pub opened : ℕ
  pub done : ℕ
  pub means : comes (overflow opened done)
  pub within : opened ≤ told

-- the same with the rounds left, those that were finished being spent
pub record Overflowed (comes : Value → Type 0) (told left : ℕ) : Type 0 where
  pub overflowing : Overflowing comes told
  pub spends : overflowing.done + left ≡ told

-- it would begin more rounds than are told
pub record Exceeding (comes : Value → Type 0) (told : ℕ) : Type 0 where
  pub whole : Value
  pub means : comes whole
  pub beyond : told < begun whole

-- "Finished rounds stay spent, a refused drill's too": the rounds left after it
pub record Spending (comes : Value → Type 0) (told left : ℕ) : Type 0 where
  pub whole : Value
  pub means : comes whole
  pub left_is : left ≡ told - spent whole

-- what was answered. After a list the words behind it and the slots after it are free, and where there is none all slots that were lent: no
-- promise says what these words hold. Of them `Kept`, of each contract, says that there are as many as before, and that every other word is
-- as it was
abbrev pub EvaluatedAs : (Value → Type 0) → ℕ → List ℤ → ℕ → Result Listed Stopped → Type 0
EvaluatedAs comes told ws base (Ok l) = Standing comes told ws base l.count l.left
EvaluatedAs comes told ws base (Err (Overflow left)) = Overflowed comes told left
EvaluatedAs comes told ws base (Err Spent) = Exceeding comes told
