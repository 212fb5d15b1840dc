-- The parts of a zone outside another, limit by limit.
use Rattle.std.specs.Prelude.{Bool, true, false, cond, ◌↔◌, List, [], ◌∷◌, ℕ, eqb, get_or, Option}
use Rattle.limit.specs.Time.{Time}
use Rattle.limit.specs.declared.Limit.{Limit}
use Rattle.limit.specs.Limit.{at_most, ◌≤ᴸ◌, ◌⊕◌, nought, lesser, broken, most_ticks}
use Rattle.zone.specs.declared.Zone.{Zone}
use Rattle.zone.specs.Zone.{In, InMaybe, Inside, TightMaybe, Side, on-start, on-nstart, on-end, on-nend, on-length, on-nlength, limit, opposite, Keeps, tighten, Ranged}

-- "document 01's order of limits"
abbrev pub sides : List Side
sides = on-start ∷ on-nstart ∷ on-end ∷ on-nend ∷ on-length ∷ on-nlength ∷ []

-- the side at a place of that order, from 0, and its place
abbrev pub side : ℕ → Side
side n = get_or sides n on-start

abbrev pub place : Side → ℕ
place on-start = 0
place on-nstart = 1
place on-end = 2
place on-nend = 3
place on-length = 4
place on-nlength = 5

-- the zone with these limits
unfoldable pub of_limits : (Side → Limit) → Zone
of_limits f =
    record {
      start = f on-start;
      nstart = f on-nstart;
      end = f on-end;
      nend = f on-nend;
      length = f on-length;
      nlength = f on-nlength;
    }

-- z with the limit l on side k too
unfoldable pub also : Zone → Side → Limit → Zone
also z k l = of_limits (λ j. cond (eqb (place j) (place k)) (lesser (limit z j) l) (limit z j))

-- the stretches of z that keep to w's limit on side k
abbrev pub keeping : Zone → Zone → Side → Zone
keeping z w k = also z k (limit w k)

-- those that break it: they keep to the broken limit on the opposite side
unfoldable pub part : Zone → Zone → Side → Option Zone
part z w k = tighten (also z (opposite k) (broken (limit w k)))

-- "its parts that break the operand's limit one, then limit two keeping one, and so to limit six": of z, where w is the operand's zone
unfoldable pub parts_on : List Side → Zone → Zone → List (Option Zone)
parts_on [] z w = []
parts_on (k ∷ ks) z w = part z w k ∷ parts_on ks (keeping z w k) w

abbrev pub parts : Zone → Zone → List (Option Zone)
parts = parts_on sides

-- the limit on side k and the one on the negated quantity leave room between them
abbrev pub room : Zone → Side → Bool
room z k = at_most nought (limit z k ⊕ limit z (opposite k))

-- ---- what the functions ask and mean

-- what is left of a listed zone, which need not be tight: it is inside ticks 0..1,000,000 and says so by its limits
pub record Cuttable (z : Zone) : Type 0 where
  pub inside : Inside 0 most_ticks z
  pub after_0 : z.nstart ≤ᴸ nought
  pub onward : z.nlength ≤ᴸ nought
  pub ranged : Ranged most_ticks z

-- the answer for the part of z that breaks w's limit on side k
pub record Breaks (z w : Zone) (k : Side) (r : Option Zone) : Type 0 where
  pub members : (x y : Time) → InMaybe r x y ↔ (In z x y × ¬ Keeps k (limit w k) x y)
  pub tight : TightMaybe r

-- what is left of z without that part
pub record KeepsTo (z w : Zone) (k : Side) (r : Zone) : Type 0 where
  pub members : (x y : Time) → In r x y ↔ (In z x y × Keeps k (limit w k) x y)
  pub cuttable : Cuttable r

-- the answer to whether there is room: without it z has no stretch; with it, whether z has one is not said
abbrev pub RoomAs : Zone → Bool → Type 0
RoomAs z true = Unit {0}
RoomAs z false = (x y : Time) → ¬ In z x y
