-- Putting a zone into a list. No list has more than 128 zones.
use Rattle.std.specs.Prelude.{Bool, false, cond, ◌||◌, List, [], ◌∷◌, ◌++◌, ℕ, ltb, length, Option, Some, None}
use Rattle.zone.specs.declared.Zone.{Zone}
use Rattle.zone.specs.Zone.{contains}

-- the zones that a list has at most
abbrev pub capacity : ℕ
capacity = 128

-- z lies inside a listed zone
unfoldable pub covered : Zone → List Zone → Bool
covered z [] = false
covered z (y ∷ L) = contains y z || covered z L

-- the listed zones that do not lie inside z, in their order
unfoldable pub outside : Zone → List Zone → List Zone
outside z [] = []
outside z (y ∷ L) = cond (contains z y) (outside z L) (y ∷ outside z L)

-- what a put comes to: turned away, placed with the list it leaves, or a list of 129 zones, which is none
pub data Put : Type 0 where
  away : Put
  placed : List Zone → Put
  overflow : Put

-- "if it lies inside a listed zone, nothing; else the listed zones inside it are removed, the rest keep their order, it goes last"
unfoldable pub insert : Zone → List Zone → Put
insert z L = cond (covered z L) away (cond (ltb (length (outside z L)) capacity) (placed (outside z L ++ (z ∷ []))) overflow)

-- what a list of puts comes to: a list, or that one of them would leave 129 zones
pub data Built : Type 0 where
  listed : List Zone → Built
  overflow : Built

-- go on with the list that a put leaves, if there is one
abbrev pub after : Put → List Zone → (List Zone → Built) → Built
after away L next = next L
after (placed M) L next = next M
after overflow L next = overflow

-- zones put one after the other, an empty answer being passed over
unfoldable pub insert_each : List (Option Zone) → List Zone → Built
insert_each [] L = listed L
insert_each (None ∷ rest) L = insert_each rest L
insert_each (Some z ∷ rest) L = after (insert z L) L (λ M. insert_each rest M)

-- go on with the list that was built, if there is one
abbrev pub then : Built → (List Zone → Built) → Built
then (listed M) next = next M
then overflow next = overflow
