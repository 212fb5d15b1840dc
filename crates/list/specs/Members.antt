-- Stretches and zones that lie in a list.
use mathlib.Core.List.{List, Memᴰ}
use Rattle.std.specs.Prelude.{ℕ, T}
use Rattle.limit.specs.Time.{Time}
use Rattle.zone.specs.declared.Zone.{Zone}
use Rattle.zone.specs.Zone.{In, Proper, contains}

-- the stretch from x to y lies in some listed zone
pub record Lies (L : List Zone) (x y : Time) : Type 0 where
  pub in_zone : Zone
  pub among : Memᴰ in_zone L
  pub member : In in_zone x y

-- every listed zone is tight and inside ticks from..to
abbrev pub AllProper : ℕ → ℕ → List Zone → Type 0
AllProper from to L = (z : Zone) → Memᴰ z L → Proper from to z

-- x lies inside some listed zone
abbrev pub Covered : Zone → List Zone → Type 0
Covered x L = (y : Zone) × Memᴰ y L × T (contains y x)

-- x lies inside no listed zone, and none lies inside x
abbrev pub Apart : Zone → List Zone → Type 0
Apart x L = (y : Zone) → Memᴰ y L → (¬ T (contains y x)) × (¬ T (contains x y))
