-- The rounding of a time to a tick: what it means, and all that is used of it.
use mathlib.Core.Path.{◌≡◌, refl}
use Prim.Native.Nat.{ℕ, ◌+◌, ◌*◌, ◌%◌, ◌≤◌}
use native.Mathlib.Decide.{ℕ_discrete}
use native.Mathlib.Omega.{arith}
use borrow.Author.Tests.{eq-eqb, ne_eqb}
use Rattle.recording.specs.Reading.{tick}

-- tick k is never more than 5 ms from m ms, and where m is halfway, k is even
pub record Rounded (m k : ℕ) : Type 0 where
  pub after : 10 * k ≤ m + 5
  pub before : m ≤ 10 * k + 5
  pub even : m % 10 ≡ 5 → k % 2 ≡ 0

-- so it is with the tick of the definition ..
pub tick_rounds : (m : ℕ) → Rounded m (tick m)
unfolding tick
tick_rounds m = elim (ℕ_discrete (m % 10) 5) [
  | yes h ↦ rw (eq-eqb (m % 10) 5 h) (record { after = omega arith; before = omega arith; even = λ _. omega arith })
  | no h ↦ rw (ne_eqb (m % 10) 5 h) (record { after = omega arith; before = omega arith; even = λ e. absurd (h e) })
]

-- .. and with no other: two even numbers differ by more than 1
pub tick_only : {m k : ℕ} → Rounded m k → k ≡ tick m
tick_only {m} {k} r =
    let t = tick_rounds m in
    elim (ℕ_discrete (m % 10) 5) [
      | yes h ↦
          let a : k ≤ tick m + 1 = omega (arith, r.after, t.before) in
          let b : tick m ≤ k + 1 = omega (arith, r.before, t.after) in
          neighbours k (tick m) a b (r.even h) (t.even h)
      | no h ↦ omega (arith, r.after, r.before, t.after, t.before)
    ]
  where
    neighbours : (i j : ℕ) → i ≤ j + 1 → j ≤ i + 1 → i % 2 ≡ 0 → j % 2 ≡ 0 → i ≡ j
    neighbours i j a b e f = omega arith

-- a later time is no earlier tick
pub tick_mono : {m n : ℕ} → m ≤ n → tick m ≤ tick n
tick_mono {m} {n} h = elim (ℕ_discrete m n) [
  | yes e ↦ rw e (omega arith)
  | no e ↦ omega (arith, (tick_rounds m).after, (tick_rounds n).before)
]

-- a valid duration has 1 to 1,000,000 ticks
pub tick_range : {m : ℕ} → 10 ≤ m → m ≤ 10000000 → (1 ≤ tick m) × (tick m ≤ 1000000)
tick_range {m} h k = let t = tick_rounds m in (omega (arith, t.before), omega (arith, t.after))

-- at the rounding
pub rounding : (tick 5 ≡ 0) × (tick 15 ≡ 2) × (tick 24 ≡ 2) × (tick 25 ≡ 2) × (tick 26 ≡ 3) × (tick 35 ≡ 4)
unfolding tick
rounding = (refl, refl, refl, refl, refl, refl)
