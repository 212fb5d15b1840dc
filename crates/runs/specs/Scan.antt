-- What the scanner of a channel's runs promises: the next run from a cursor into the changes.
use Rattle.std.specs.Prelude.{◌≡◌, List, ℕ, ◌≤◌, ◌<◌, max, min, Option, Some, None}
use Rattle.recording.specs.Changes.{begins}
use Rattle.runs.specs.Levels.{Shows}
use Rattle.runs.specs.Runs.{FirstRun}
use Rattle.runs.specs.declared.Cursor.{Cursor}
use Rattle.runs.specs.declared.Level.{Level}
use Rattle.runs.specs.declared.Run.{Run}

-- the tick from which a cursor looks on
abbrev pub position : List ℕ → ℕ → ℕ → Cursor → ℕ
position bytes from to cursor = max from (min to (begins bytes cursor.change))

-- What a cursor finds next: the first run from its position on, with a cursor behind it; or there is no tick more. Which change that cursor
-- names is free: several may hold from one tick, or from outside from..to. Its position is not: it is the run's end.
abbrev pub NextRun : List ℕ → ℕ → Level → ℕ → ℕ → Cursor → Option (Run × Cursor) → Type 0
NextRun bytes channel level from to cursor (Some found) =
    FirstRun (Shows bytes channel level) (position bytes from to cursor) to found.0.start found.0.end
    × (position bytes from to found.1 ≡ found.0.end)
NextRun bytes channel level from to cursor None =
    (k : ℕ) → position bytes from to cursor ≤ k → k < to → Shows bytes channel level k → ⊥
