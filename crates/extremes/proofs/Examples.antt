-- Worked examples, computed. On recording R, high from tick 2 to 7 of 10, the list of `a` is the run 2 to 7.
use Rattle.std.specs.Prelude.{Option, Some, None}
use mathlib.Core.Path.{◌≡◌, refl}
use mathlib.Core.List.{List, [], ◌∷◌}
use Prim.Native.Nat.{ℕ}
use Rattle.limit.specs.Limit.{lesser, greater, ◌⊕◌}
use Rattle.zone.specs.declared.Zone.{Zone}
use Rattle.zone.specs.Zone.{compose, diagonal, run, across, where_room}
use Rattle.extremes.specs.Ends.{Extreme, Reached, Unreached, Ends}
use Rattle.extremes.specs.Steps.{told}
use Rattle.extremes.proofs.Each.{see_each}

abbrev from : ℕ → List Zone → Option Ends
from s L = told (see_each s None L)

abbrev between : Extreme → Extreme → Option Ends
between a b = Some (record { earliest = a; latest = b })

-- `a` from tick 2: ends (2,7]
a_from_2 : from 2 (run 2 7 ∷ []) ≡ between (Unreached 2) (Reached 7)
unfolding see_each compose across where_room diagonal run lesser ◌⊕◌
a_from_2 = refl

-- from tick 7, its end, and from tick 1 there is none
a_from_7 : (from 7 (run 2 7 ∷ []) ≡ None) × (from 1 (run 2 7 ∷ []) ≡ None)
unfolding see_each compose across where_room diagonal run lesser ◌⊕◌
a_from_7 = (refl, refl)

-- two runs and the diagonal: the diagonal gives the earliest, the run that has tick 5 the latest
from_5 : from 5 (run 2 7 ∷ run 7 10 ∷ diagonal 0 10 ∷ []) ≡ between (Reached 5) (Reached 7)
unfolding see_each compose across where_room diagonal run lesser greater ◌⊕◌
from_5 = refl

-- from tick d there is the stretch d to d
from_10 : from 10 (run 2 7 ∷ diagonal 0 10 ∷ []) ≡ between (Reached 10) (Reached 10)
unfolding see_each compose across where_room diagonal run lesser greater ◌⊕◌
from_10 = refl
