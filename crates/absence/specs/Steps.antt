-- What the private functions ask. No public contract cites it.
use Rattle.std.specs.Prelude.{List, ◌++◌, map, ℕ, ◌+◌, ◌*◌, ◌≤◌, ℤ, length, Option, Some, None}
use Rattle.zone.specs.declared.Zone.{Zone}
use Rattle.parts.specs.Shares.{ShareNone}
use Rattle.list.specs.Members.{Apart}
use Rattle.list.specs.Slots.{slot_words, list_at, Sound, Source}
use Rattle.growing.specs.declared.Growing.{Growing}
use Rattle.growing.specs.Growth.{Stands}
use Rattle.zone.specs.Zone.{Proper}

-- what is left of a zone can be put last in L, if anything is
abbrev pub Listable : List Zone → Option Zone → Type 0
Listable L (Some z) = Proper 0 1_000_000 z × Apart z L
Listable L None = Unit {0}

-- the growing list g stands in the slot at `target`, and none of its zones and of those still to come shares a stretch with another
pub record Growable (ws : List ℤ) (target : ℕ) (g : Growing) (todo : List (Option Zone)) : Type 0 where
  pub stands : Stands ws target g
  pub sound : Sound (list_at ws target g.count)
  pub shared : ShareNone (map Some (list_at ws target g.count) ++ todo)

-- the operand's list of n zones in the slot at `base`, one zone in the slot behind it, and one slot more
pub record Operand (ws : List ℤ) (base n : ℕ) : Type 0 where
  pub list : Source ws base n
  pub first : Source ws (base + slot_words) 1
  pub room : base + 3 * slot_words ≤ length ws
