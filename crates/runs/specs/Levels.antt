-- The level of a channel in a tick.
use Rattle.std.specs.Prelude.{◌≡◌, cond, List, ℕ, ◌/◌, ◌%◌, ◌^◌, ◌≤◌, ◌<◌, eqb}
use Rattle.recording.specs.Reading.{tick, ticks, changes, time, levels}
use Rattle.runs.specs.declared.Level.{Level}
use Rattle.runs.specs.declared.Level.TheVariants.{High, Low}

-- bit 0 is channel a, 1 is high
unfoldable pub level_in : ℕ → ℕ → Level
level_in word channel = cond (eqb (word / 2 ^ channel % 2) 1) High Low

-- levels hold from their tick until the next change's tick, and of several changes on one tick the last stands:
-- in tick k that is the last change whose tick is not after k
pub record Stands (bytes : List ℕ) (k j : ℕ) : Type 0 where
  pub first : 0 < j
  pub change : j ≤ changes bytes
  pub begun : tick (time bytes j) ≤ k
  pub last : (i : ℕ) → j < i → i ≤ changes bytes → k < tick (time bytes i)

-- The channel has the level in tick k, one of the ticks 0 to d - 1, so that a change on tick d has no effect: a change that stands there leaves
-- it so. "no channel is high or low before the tick of the first change", and "Without a change record nothing is reported": no change stands.
pub record Shows (bytes : List ℕ) (channel : ℕ) (level : Level) (k : ℕ) : Type 0 where
  pub inside : k < ticks bytes
  pub change : ℕ
  pub stands : Stands bytes k change
  pub left : level_in (levels bytes change) channel ≡ level
