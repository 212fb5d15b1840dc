-- Whole ticks where one thing goes over to another.
use mathlib.Core.List.{List, Memᴰ}
use Rattle.std.specs.Prelude.{ℕ, ◌-◌, ◌≤◌, ◌<◌}
use Rattle.runs.specs.Runs.{Rising}

-- "low in tick s − 1 and high in tick s", of anything that holds in a tick and anything that holds in the next
pub record Event (P Q : ℕ → Type 0) (s : ℕ) : Type 0 where
  pub some : 0 < s
  pub was : P (s - 1)
  pub is : Q s

-- those at the ticks from..to, both included, in rising time; the two ticks beside one may lie outside from..to
pub record Events (P Q : ℕ → Type 0) (from to : ℕ) (ss : List ℕ) : Type 0 where
  pub each : (s : ℕ) → Memᴰ s ss → (from ≤ s) × (s ≤ to) × Event P Q s
  pub all : (s : ℕ) → from ≤ s → s ≤ to → Event P Q s → Memᴰ s ss
  pub rising : Rising (λ (s : ℕ). s) ss
