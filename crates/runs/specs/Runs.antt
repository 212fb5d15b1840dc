-- Maximal runs of ticks at which something holds.
use Rattle.std.specs.Prelude.{◌≡◌, ℕ, suc, ◌≤◌, ◌<◌}
use mathlib.Core.List.{List, [], ◌∷◌, Memᴰ}
use Rattle.runs.specs.declared.Run.{Run}

-- s to e is a maximal run within ticks from..to: P holds in its ticks s to e - 1 and in neither of the ticks beside it
pub record Maximal (P : ℕ → Type 0) (from to s e : ℕ) : Type 0 where
  pub lower : from ≤ s
  pub some : s < e
  pub upper : e ≤ to
  pub holds : (k : ℕ) → s ≤ k → k < e → P k
  pub left : (k : ℕ) → from ≤ k → suc k ≡ s → P k → ⊥
  pub right : e < to → P e → ⊥

-- in rising time: each comes before all that stand after it
pub data Rising {A : Type 0} (time : A → ℕ) : List A → Type 0 where
  none : Rising time []
  next : {x : A} {xs : List A} → ((y : A) → Memᴰ y xs → time x < time y) → Rising time xs → Rising time (x ∷ xs)

-- the maximal runs of P within from..to, in rising time
pub record Runs (P : ℕ → Type 0) (from to : ℕ) (xs : List Run) : Type 0 where
  pub each : (x : Run) → Memᴰ x xs → Maximal P from to x.start x.end
  pub all : (x : Run) → Maximal P from to x.start x.end → Memᴰ x xs
  pub rising : Rising (λ (x : Run). x.start) xs

-- s to e are the first ticks from tick `at` on, and before `to`, at which P holds
pub record FirstRun (P : ℕ → Type 0) (at to s e : ℕ) : Type 0 where
  pub ahead : at ≤ s
  pub some : s < e
  pub upper : e ≤ to
  pub silent : (k : ℕ) → at ≤ k → k < s → P k → ⊥
  pub holds : (k : ℕ) → s ≤ k → k < e → P k
  pub right : e < to → P e → ⊥
