-- `~`: the list of the stretches that lie in none of the operand's zones.
use Rattle.std.specs.Prelude.{List, [], ◌∷◌, ◌++◌, ℕ, Option}
use Rattle.zone.specs.declared.Zone.{Zone}
use Rattle.zone.specs.Zone.{everything}
use Rattle.parts.specs.Parts.{parts}
use Rattle.list.specs.Insert.{Built, listed, insert_each, then}

-- "each listed zone is replaced by its parts", those outside w, "listed zone by listed zone"
unfoldable pub parts_each : Zone → List Zone → List (Option Zone)
parts_each w [] = []
parts_each w (z ∷ L) = parts z w ++ parts_each w L

-- "Those that are not empty are put into a new list"
unfoldable pub without : Zone → List Zone → Built
without w L = insert_each (parts_each w L) []

-- "For each zone of the operand in order"
unfoldable pub without_each : List Zone → List Zone → Built
without_each [] L = listed L
without_each (w ∷ W) L = then (without w L) (without_each W)

-- "Begin with one zone, all stretches"
unfoldable pub absent : ℕ → ℕ → List Zone → Built
absent from to W = without_each W (everything from to ∷ [])
