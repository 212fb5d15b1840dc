-- The levels of a recording are of finite variability, so that every drill comes to a value on it.
use mathlib.Core.List.{List}
use Prim.Native.Nat.{ℕ, ◌+◌, ◌-◌, min}
use Rattle.recording.specs.Reading.{ticks}
use Rattle.runs.specs.Levels.{Shows}
use Rattle.runs.proofs.Handed.{shows_runs, shows_held}
use Rattle.runs.proofs.Events.{shows_events}
use Rattle.meaning.proofs.Evaluation.{FiniteVariability}

pub recording_finite : (bytes : List ℕ) (from to : ℕ) → FiniteVariability (Shows bytes) from to
recording_finite bytes from to = record {
  runs = λ k level. let r = shows_runs bytes k level from to in (_, record { runs = r; covers = λ n a b s. (shows_held bytes k level from to r n a b).0 s });
  events = λ k level. (_, shows_events bytes k level from to (shows_runs bytes k level (from - 1) (min (to + 1) (ticks bytes))));
}
