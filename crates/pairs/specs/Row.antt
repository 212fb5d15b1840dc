-- One zone with each of some others: what is required, and what is put.
use Rattle.std.specs.Prelude.{◌⊎◌, List, map, ℕ, ◌+◌, ◌*◌, ◌≤◌, ℤ, length, Option, Result}
use Rattle.zone.specs.declared.Zone.{Zone}
use Rattle.words.specs.Words.{zone_words}
use Rattle.list.specs.Slots.{slot_words, list_at, Sound}
use Rattle.growing.specs.declared.Growing.{Growing}
use Rattle.list.specs.declared.Overflow.{Overflow}
use Rattle.growing.specs.Growth.{Stands, GrowsAs}
use Rattle.pairs.specs.Counted.{Counted}
use Rattle.pairs.specs.Pairs.{Operation, apply, Composed}

-- more pairs than two lists have
abbrev pub most_pairs : ℕ
most_pairs = 1_000_000

-- n zones from `from` on that are combined with others, and the slot at `target` has no word of them
pub record Zones (ws : List ℤ) (from n target : ℕ) : Type 0 where
  pub room : from + n * zone_words ≤ length ws
  pub sound : Sound (list_at ws from n)
  pub apart : (from + n * zone_words ≤ target) ⊎ (target + slot_words ≤ from)

-- the zone at `left`, m zones from `right` on, and the growing list that puts of what comes of them go into
pub record Pairing (ws : List ℤ) (left right m target : ℕ) (g : Growing) : Type 0 where
  pub one : Zones ws left 1 target
  pub others : Zones ws right m target
  pub stands : Stands ws target g
  pub countable : g.pairs + m ≤ most_pairs

-- what an operation makes of a pair
abbrev pub applied : Operation → Zone × Zone → Option Zone
applied op p = apply op p.0 p.1

-- the pairs ps, put into the list that stands as g among the words ws, with the words vs after
abbrev pub PairsAs : Operation → List (Zone × Zone) → Growing → List ℤ → ℕ → List ℤ → Result Growing Overflow → Type 0
PairsAs op ps = GrowsAs (map (applied op) ps) (Counted (Composed op) ps)
