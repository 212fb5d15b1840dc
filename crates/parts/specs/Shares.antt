-- Zones of which no two share a stretch, as the private functions of `absence` ask. No public contract cites it.
use Rattle.std.specs.Prelude.{Option}
use mathlib.Core.List.{List, [], ◌∷◌, Memᴰ}
use Rattle.limit.specs.Time.{Time}
use Rattle.zone.specs.declared.Zone.{Zone}
use Rattle.zone.specs.Zone.{InMaybe}

-- the stretch lies in one of them
abbrev pub InSome : List (Option Zone) → Time → Time → Type 0
InSome rs x y = (r : Option Zone) × Memᴰ r rs × InMaybe r x y

-- no two of them share a stretch
abbrev pub ShareNone : List (Option Zone) → Type 0
ShareNone [] = Unit {0}
ShareNone (r ∷ rs) = ((x y : Time) → InMaybe r x y → ¬ InSome rs x y) × ShareNone rs
