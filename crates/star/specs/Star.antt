-- The rounds of a star.
use Rattle.std.specs.Prelude.{◌≡◌, List, [], ◌∷◌, ℕ, Some}
use Rattle.zone.specs.declared.Zone.{Zone}
use Rattle.list.specs.Insert as puts
use Rattle.list.specs.Insert.{Built, listed, insert_each}
use Rattle.pairs.specs.Pairs.{pairs}
use Rattle.pairs.specs.declared.Operation.TheVariants.{Compose}
pub use Rattle.purse.specs.Value.{Value, value, overflow, begun, spent, with_rounds}

-- "A round copies the list, then for each zone of the list before the round, for each inner zone, puts their composition into the copy"
unfoldable pub round : List Zone → List Zone → Built
round inner L = insert_each (pairs Compose L inner) L

-- the rounds from a list on: "A round that changes nothing is the last, and is counted"; one that overflows is begun and not finished
pub data Rounds (inner : List Zone) : List Zone → Value → Type 0 where
  last : {L : List Zone} → round inner L ≡ listed L → Rounds inner L (value L 1)
  more : {L M : List Zone} {v : Value} → round inner L ≡ listed M → ¬ (M ≡ L) → Rounds inner M v → Rounds inner L (with_rounds 1 v)
  overflows : {L : List Zone} → round inner L ≡ puts.overflow → Rounds inner L (overflow 1 0)

-- the star: "begin with the inner list", the rounds, "Then the diagonal is put", which can be the 129th too
pub data Star (inner : List Zone) (diagonal : Zone) : Value → Type 0 where
  closed : {r : ℕ} {F G : List Zone} → Rounds inner inner (value F r) → insert_each (Some diagonal ∷ []) F ≡ listed G → Star inner diagonal (value G r)
  diagonal_overflows : {r : ℕ} {F : List Zone} → Rounds inner inner (value F r) → insert_each (Some diagonal ∷ []) F ≡ puts.overflow → Star inner diagonal (overflow r r)
  round_overflows : {b f : ℕ} → Rounds inner inner (overflow b f) → Star inner diagonal (overflow b f)
