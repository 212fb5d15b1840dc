-- The rounds of a drill are fewer than a call without a limit is told.
use mathlib.Core.List.{List}
use Prim.Native.Nat.{ℕ, ◌+◌, ◌-◌, ◌*◌, ◌≤◌, ◌<◌}
use native.Mathlib.Decide.{dec_le}
use native.Mathlib.Nat.{pow-le-pow_right, mul-le-mul_left, mul-le-mul_right, le_trans}
use native.Mathlib.Omega.{arith}
use Rattle.list.specs.Insert.{capacity}
use Rattle.recording.specs.Reading.{ticks}
use Rattle.runs.specs.Levels.{Shows}
use Rattle.runs.specs.declared.Level.{Level}
use Rattle.expression.specs.Expression.{Expression, depth}
use Rattle.expression.specs.Refusal.{DrillCause, too_deep}
use Rattle.meaning.specs.Lists.{Value, begun, Evaluates}
use Rattle.meaning.proofs.Totals.{rounds_bound}
use Rattle.calls.specs.Outcome.{Comes}

-- a drill of depth 16 has fewer than 65,536 `*`, each with at most 128 + 1,000,000 rounds
abbrev pub most_rounds : ℕ
most_rounds = 65_536 * 1_000_128

-- of an expression of depth 16 or less, over 1,000,000 ticks or fewer
begun_few : (Shows : ℕ → Level → ℕ → Type 0) {from to : ℕ} → from < to → (e : Expression) (v : Value) → depth e ≤ 16 → to - from ≤ 1_000_000
    → Evaluates Shows from to e v → begun v ≤ most_rounds
begun_few Shows {from} {to} some e v shallow short p =
    let a = pow-le-pow_right {n = 2} (omega arith) {i = depth e} {j = 16} shallow in
    let b : capacity + (to - from) ≤ 1_000_128 = omega arith in
    omega (arith, le_trans (rounds_bound Shows some e v p) (le_trans (mul-le-mul_right (capacity + (to - from)) a) (mul-le-mul_left 65_536 b)))

-- of a drill that is not too deep, on a recording
pub comes_few : {bytes text : List ℕ} {channels : ℕ} {v : Value} → 0 < ticks bytes → ticks bytes ≤ 1_000_000 → ¬ DrillCause text channels 8 → Comes bytes text v → begun v ≤ most_rounds
comes_few {bytes} {v = v} some few shallow c =
    begun_few (Shows bytes) some c.drill v
    (elim (dec_le (depth c.drill) 16) [ yes k ↦ k | no k ↦ absurd (shallow (too_deep c.form (omega arith))) ]) (omega arith) c.evaluates
