-- For private contracts alone: the two levels, and the search among the changes, two of which make a run.
use Rattle.std.specs.Prelude.{◌≡◌, Bool, true, false, not, cond, List, ℕ, ◌+◌, ◌≤◌, ◌<◌, max, min, eqb}
use Rattle.recording.specs.Reading.{levels}
use Rattle.recording.specs.Changes.{begins}
use Rattle.runs.specs.Levels.{level_in, Shows}
use Rattle.runs.specs.declared.Level.{Level}
use Rattle.runs.specs.declared.Level.TheVariants.{High, Low}

abbrev pub other : Level → Level
other High = Low
other Low = High

-- the two levels are the same
abbrev pub same_level : Level → Level → Bool
same_level High High = true
same_level High Low = false
same_level Low High = false
same_level Low Low = true

-- change j leaves the channel at the level; 0 is the time before the first change, where it has none
unfoldable pub leaves_at : List ℕ → ℕ → Level → ℕ → Bool
leaves_at bytes channel level j = cond (eqb j 0) false (same_level (level_in (levels bytes j) channel) level)

-- the claim A, or that it fails
abbrev pub Decides : Bool → Type 0 → Type 0
Decides true A = A
Decides false A = A → ⊥

-- change r is the first from change j on that leaves a level for some ticks of from..to, and there the channel has the level if
-- `wanted`, and does not if not; or `to` comes first
pub record Sought (bytes : List ℕ) (channel : ℕ) (level : Level) (from to j : ℕ) (wanted : Bool) (r : ℕ) : Type 0 where
  pub ahead : j ≤ r
  pub passed : (k : ℕ) → from ≤ k → k < to → begins bytes j ≤ k → k < begins bytes r → Decides (not wanted) (Shows bytes channel level k)
  pub fits : begins bytes r < to → max from (begins bytes r) < min to (begins bytes (r + 1))
  pub shown : begins bytes r < to → leaves_at bytes channel level r ≡ wanted
