-- What the private functions answer. No public contract cites it.
use Rattle.std.specs.Prelude.{◌≡◌, Bool, true, false, ℕ, ◌<◌, ℤ, None}
use Rattle.zone.specs.declared.Zone.{Zone}
use Rattle.zone.specs.Zone.{Proper}
use Rattle.hulls.specs.Hulls.{block_zones, Under}
use Rattle.pairs.specs.declared.Operation.{Operation}
use Rattle.pairs.specs.Pairs.{apply, Composed}

-- of m zones, in more than one block, z makes nothing of any under the hull; or nothing is said
abbrev pub ReachesAs : Operation → Zone → ℕ → ℤ → ℤ → Bool → Type 0
ReachesAs op z m s ns true = Unit {0}
ReachesAs op z m s ns false = (block_zones < m) × ((w : Zone) → Proper 0 1_000_000 w → Under s ns w → (apply op z w ≡ None) × (¬ Composed op (z, w)))
