-- What the pair loops put: the answer for each left zone and each right zone; and which pairs they compose.
use Rattle.std.specs.Prelude.{List, [], ◌∷◌, ◌++◌, map, Option}
use Rattle.zone.specs.declared.Zone.{Zone}
use Rattle.zone.specs.Zone.{Touches, meet, compose}
pub use Rattle.pairs.specs.declared.Operation.{Operation}
pub use Rattle.pairs.specs.declared.Operation.TheVariants.{Meet, Compose}

-- what an operation makes of a pair
abbrev pub apply : Operation → Zone → Zone → Option Zone
apply Meet z w = meet z w
apply Compose z w = compose z w

-- "for each left zone, for each right zone", the meet or the composition
unfoldable pub pairs : Operation → List Zone → List Zone → List (Option Zone)
pairs op [] B = []
pairs op (z ∷ A) B = map (apply op z) B ++ pairs op A B

-- the pairs themselves: z with each right zone, and each left zone with each right zone
abbrev pub beside : Zone → List Zone → List (Zone × Zone)
beside z B = map (λ w. (z, w)) B

unfoldable pub crossed : List Zone → List Zone → List (Zone × Zone)
crossed [] B = []
crossed (z ∷ A) B = beside z B ++ crossed A B

-- some end of the left zone is a start of the right one
abbrev pub Touching : Zone × Zone → Type 0
Touching p = Touches p.0 p.1

-- the pairs that an operation composes: those that touch; a meet composes none
abbrev pub Composed : Operation → Zone × Zone → Type 0
Composed Meet p = ⊥
Composed Compose p = Touching p
