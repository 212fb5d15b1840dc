-- None of the listed zones lies inside another.
use mathlib.Core.List.{List, [], ◌∷◌}
use Rattle.zone.specs.declared.Zone.{Zone}
use Rattle.list.specs.Members.{Apart}

abbrev pub Antichain : List Zone → Type 0
Antichain [] = Unit {0}
Antichain (x ∷ L) = Apart x L × Antichain L
