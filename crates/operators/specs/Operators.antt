-- The list of each operator, built from the finished lists of its operands.
use Rattle.std.specs.Prelude.{List, [], ◌∷◌, ◌++◌, map, Option, Some, None}
use Rattle.zone.specs.declared.Zone.{Zone}
use Rattle.list.specs.Insert.{Built, listed, insert_each}
use Rattle.pairs.specs.Pairs.{pairs}
use Rattle.pairs.specs.declared.Operation.TheVariants.{Meet, Compose}

-- `|`: "put the left zones, then the right ones, into an empty list"
unfoldable pub union : List Zone → List Zone → Built
union A B = insert_each (map Some A ++ map Some B) []

-- `&`
unfoldable pub meets : List Zone → List Zone → Built
meets A B = insert_each (pairs Meet A B) []

-- `.`
unfoldable pub compositions : List Zone → List Zone → Built
compositions A B = insert_each (pairs Compose A B) []

-- `{lo,hi}`: "put each zone's meet with the band"; an empty band leaves nothing
unfoldable pub banded : Option Zone → List Zone → Built
banded (Some b) A = insert_each (pairs Meet A (b ∷ [])) []
banded None A = listed []
