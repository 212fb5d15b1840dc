-- The stretches of a kind, as those of finitely many zones.
use Rattle.std.specs.Prelude.{◌↔◌, List, ℕ}
use Rattle.limit.specs.Time.{Time}
use Rattle.zone.specs.declared.Zone.{Zone}
use Rattle.zone.specs.Zone.{Stretch}
use Rattle.list.specs.Members.{Lies, AllProper}

-- of the stretches inside from..to, those that are S are those of finitely many zones, of any number, each tight and inside from..to
pub record Drawn (from to : ℕ) (S : Time → Time → Type 0) : Type 0 where
  pub zones : List Zone
  pub proper : AllProper from to zones
  pub exact : (x y : Time) → Stretch from to x y → Lies zones x y ↔ S x y
