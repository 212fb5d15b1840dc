-- Times. All comparisons are by cross multiplication, so that 1/1 and 2/2 are one time everywhere.
use Rattle.std.specs.Prelude.{◌≡◌, ℕ, ◌+◌, ◌*◌, ◌≤◌, ◌<◌, ℤ, pos, ◌-ℤ◌, ◌*ℤ◌}
use Rattle.std.proofs.Common.{lit<}

-- "A time is a/N ticks, a and N whole numbers, N at least 1"
pub record Time : Type 0 where
  pub num : ℕ
  pub den : ℕ
  pub some : 0 < den

-- tick n, taken as a time
abbrev pub at_tick : ℕ → Time
at_tick n = record { num = n; den = 1; some = lit< tt }

abbrev pub origin : Time
origin = at_tick 0

-- the time n ticks after x
abbrev pub later : ℕ → Time → Time
later n x = record { num = x.num + n * x.den; den = x.den; some = x.some }

infix 50 ◌≤ᵀ◌ ◌<ᵀ◌ ◌≈ᵀ◌
pub record ◌≤ᵀ◌ (x y : Time) : Type 0 where
  pub le : x.num * y.den ≤ y.num * x.den

pub record ◌<ᵀ◌ (x y : Time) : Type 0 where
  pub lt : x.num * y.den < y.num * x.den

pub record ◌≈ᵀ◌ (x y : Time) : Type 0 where
  pub same : x.num * y.den ≡ y.num * x.den

-- the difference x − y, and a whole number v to hold it against, both times the two denominators
abbrev pub difference : Time → Time → ℤ
difference x y = pos (x.num * y.den) -ℤ pos (y.num * x.den)

abbrev pub scaled : ℤ → Time → Time → ℤ
scaled v x y = v *ℤ pos (x.den * y.den)
