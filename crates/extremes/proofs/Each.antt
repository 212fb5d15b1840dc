-- What is seen of a list of zones, one after the other.
use Rattle.std.specs.Prelude.{Option}
use Rattle.std.proofs.Common.{List, [], ◌∷◌, ℕ}
use Rattle.zone.specs.declared.Zone.{Zone}
use Rattle.zone.specs.Zone.{compose, diagonal}
use Rattle.extremes.specs.declared.Seen.{Seen}
use Rattle.extremes.specs.Steps.{see}

-- of each listed zone its stretches from tick s
unfoldable pub see_each : ℕ → Option Seen → List Zone → Option Seen
see_each s seen [] = seen
see_each s seen (z ∷ L) = see_each s (see seen (compose (diagonal s s) z)) L
