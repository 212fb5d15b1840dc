-- Zones: their members, when they are tight, and the operations on them.
use Rattle.std.specs.Prelude.{Bool, cond, ◌&&◌, ◌↔◌, ℕ, ◌≤◌, ◌<◌, T, pos, neg_ℤ, ◌-ℤ◌, Option, Some, None}
use Rattle.limit.specs.Time.{Time, origin, at_tick, ◌≤ᵀ◌, ◌<ᵀ◌, ◌≈ᵀ◌}
use Rattle.limit.specs.declared.Limit.{Limit}
use Rattle.limit.specs.declared.Limit.TheVariants.{AtMost, Below}
use Rattle.limit.specs.Limit.{Within, at_most, ◌≤ᴸ◌, ◌⊕◌, lesser, nought, most, least, Small}
pub use Rattle.zone.specs.declared.Zone.{Zone}

-- ---- members

-- the stretch from x to y lies in the zone: "six upper limits, on start, −start, end, −end, end − start, start − end"
pub record In (z : Zone) (x y : Time) : Type 0 where
  pub start : Within z.start x origin
  pub nstart : Within z.nstart origin x
  pub end : Within z.end y origin
  pub nend : Within z.nend origin y
  pub length : Within z.length y x
  pub nlength : Within z.nlength x y

-- the stretch lies in what an operation answered
abbrev pub InMaybe : Option Zone → Time → Time → Type 0
InMaybe (Some z) x y = In z x y
InMaybe None x y = ⊥

-- "A stretch has start ≤ end, both in 0 to d": of ticks from..to
abbrev pub Stretch : ℕ → ℕ → Time → Time → Type 0
Stretch from to x y = (at_tick from ≤ᵀ x) × (x ≤ᵀ y) × (y ≤ᵀ at_tick to)

-- every member is a stretch of ticks from..to
pub record Inside (from to : ℕ) (z : Zone) : Type 0 where
  pub inside : (x y : Time) → In z x y → Stretch from to x y

-- every member of w is one of z: w lies inside z
abbrev pub Includes : Zone → Zone → Type 0
Includes z w = (x y : Time) → In w x y → In z x y

-- some time is an end of a stretch of z and a start of one of w
abbrev pub Touches : Zone → Zone → Type 0
Touches z w = (x t y : Time) × In z x t × In w t y

-- ---- the six limits by name, for what is said of each: limit k bounds `upper k` − `lower k`

pub data Side : Type 0 where
  on-start on-nstart on-end on-nend on-length on-nlength : Side

abbrev pub limit : Zone → Side → Limit
limit z on-start = z.start
limit z on-nstart = z.nstart
limit z on-end = z.end
limit z on-nend = z.nend
limit z on-length = z.length
limit z on-nlength = z.nlength

abbrev pub upper : {A : Type 0} → A → Side → A → A → A
upper o on-start x y = x
upper o on-nstart x y = o
upper o on-end x y = y
upper o on-nend x y = o
upper o on-length x y = y
upper o on-nlength x y = x

abbrev pub opposite : Side → Side
opposite on-start = on-nstart
opposite on-nstart = on-start
opposite on-end = on-nend
opposite on-nend = on-end
opposite on-length = on-nlength
opposite on-nlength = on-length

abbrev pub lower : {A : Type 0} → A → Side → A → A → A
lower o k x y = upper o (opposite k) x y

-- the stretch from x to y keeps to the limit l on side k
abbrev pub Keeps : Side → Limit → Time → Time → Type 0
Keeps k l x y = Within l (upper origin k x y) (lower origin k x y)

-- ---- tight

-- the limit m in the place of limit k would lose a stretch of z
pub record Loses (z : Zone) (k : Side) (m : Limit) : Type 0 where
  pub from : Time
  pub to : Time
  pub stretch : from ≤ᵀ to
  pub member : In z from to
  pub lost : ¬ Keeps k m from to

-- "Tight: no limit can be lowered without losing a stretch"
pub record Tight (z : Zone) : Type 0 where
  pub sharp : (k : Side) (m : Limit) → ¬ (limit z k ≤ᴸ m) → Loses z k m

abbrev pub TightMaybe : Option Zone → Type 0
TightMaybe (Some z) = Tight z
TightMaybe None = Unit {0}

-- what each listed zone is: tight, and inside ticks from..to
pub record Proper (from to : ℕ) (z : Zone) : Type 0 where
  pub tight : Tight z
  pub inside : Inside from to z

-- ---- tightening

-- "Tightening replaces a limit by the sum of two others where that is smaller"
unfoldable pub tighter : Zone → Zone
tighter z =
    record {
      start = lesser z.start (z.nlength ⊕ z.end);
      nstart = lesser z.nstart (z.nend ⊕ z.length);
      end = lesser z.end (z.length ⊕ z.start);
      nend = lesser z.nend (z.nstart ⊕ z.nlength);
      length = lesser z.length (z.end ⊕ z.nstart);
      nlength = lesser z.nlength (z.start ⊕ z.nend);
    }

-- the answer a, where an upper limit l and the one m on the negated quantity leave room between them
unfoldable pub where_room : Limit → Limit → Option Zone → Option Zone
where_room l m a = cond (at_most nought (l ⊕ m)) a None

unfoldable pub tighten : Zone → Option Zone
tighten z =
    let t = tighter z in
    where_room t.start t.nstart (where_room t.end t.nend (where_room t.length t.nlength (Some t)))

-- ---- meet: the lesser limit on each side, tightened

unfoldable pub both : Zone → Zone → Zone
both z w =
    record {
      start = lesser z.start w.start;
      nstart = lesser z.nstart w.nstart;
      end = lesser z.end w.end;
      nend = lesser z.nend w.nend;
      length = lesser z.length w.length;
      nlength = lesser z.nlength w.nlength;
    }

unfoldable pub meet : Zone → Zone → Option Zone
meet z w = tighten (both z w)

-- ---- composition: z from start to cut, w from cut to end. Each limit goes by the cut, or not by the cut, whichever is smaller

unfoldable pub across : Zone → Zone → Zone
across z w =
    record {
      start = lesser z.start (z.nlength ⊕ w.start);
      nstart = lesser z.nstart (w.nstart ⊕ z.length);
      end = lesser w.end (w.length ⊕ z.end);
      nend = lesser w.nend (z.nend ⊕ w.nlength);
      length = lesser (w.length ⊕ z.length) (w.end ⊕ z.nstart);
      nlength = lesser (z.nlength ⊕ w.nlength) (z.start ⊕ w.nend);
    }

-- empty where the ends of z and the starts of w leave no room for a cut
unfoldable pub compose : Zone → Zone → Option Zone
compose z w = where_room w.nstart z.end (where_room z.nend w.start (Some (across z w)))

-- ---- inclusion: no limit of w is above that of z

abbrev pub contains : Zone → Zone → Bool
contains z w =
    at_most w.start z.start && at_most w.nstart z.nstart && at_most w.end z.end
    && at_most w.nend z.nend && at_most w.length z.length && at_most w.nlength z.nlength

-- ---- the zones to begin with, of ticks from..to

-- a run: from ≤ start, end ≤ to, start < end
unfoldable pub run : ℕ → ℕ → Zone
run from to =
    record {
      start = Below (pos to);
      nstart = least from;
      end = most to;
      nend = Below (neg_ℤ (pos from));
      length = AtMost (pos to -ℤ pos from);
      nlength = Below (pos 0);
    }

-- start = end
unfoldable pub diagonal : ℕ → ℕ → Zone
diagonal from to =
    record {
      start = most to;
      nstart = least from;
      end = most to;
      nend = least from;
      length = nought;
      nlength = nought;
    }

-- all stretches
unfoldable pub everything : ℕ → ℕ → Zone
everything from to =
    record {
      start = most to;
      nstart = least from;
      end = most to;
      nend = least from;
      length = AtMost (pos to -ℤ pos from);
      nlength = nought;
    }

-- z with the limits `longest` on end − start and `shortest` on start − end too
unfoldable pub limited : Zone → Limit → Limit → Zone
limited z longest shortest =
    record {
      start = z.start;
      nstart = z.nstart;
      end = z.end;
      nend = z.nend;
      length = lesser z.length longest;
      nlength = lesser z.nlength shortest;
    }

-- the stretches whose length keeps to both limits
unfoldable pub band : ℕ → ℕ → Limit → Limit → Option Zone
band from to longest shortest = tighten (limited (everything from to) longest shortest)

-- ---- what the machine's numbers have room for: every tight zone inside ticks 0..n is within n of 0

pub record Ranged (n : ℕ) (z : Zone) : Type 0 where
  pub start : Small n z.start
  pub nstart : Small n z.nstart
  pub end : Small n z.end
  pub nend : Small n z.nend
  pub length : Small n z.length
  pub nlength : Small n z.nlength

-- ---- what the operations mean for members

-- the answer to tightening z
pub record Tightens (z : Zone) (r : Option Zone) : Type 0 where
  pub members : (x y : Time) → InMaybe r x y ↔ In z x y
  pub tight : z.nstart ≤ᴸ nought → z.nlength ≤ᴸ nought → TightMaybe r

-- the answer to z met with w: "both"
pub record Meets (z w : Zone) (r : Option Zone) : Type 0 where
  pub members : (x y : Time) → InMaybe r x y ↔ (In z x y × In w x y)
  pub tight : Tight z → TightMaybe r

-- the answer to z composed with w: "every stretch with some cut, any fraction, whose left part lies in the first zone and right part in
-- the second"
pub record Composes (z w : Zone) (r : Option Zone) : Type 0 where
  pub members : Tight z → Tight w → (x y : Time) → InMaybe r x y ↔ ((t : Time) × In z x t × In w t y)
  pub tight : Tight z → Tight w → TightMaybe r

-- the answer to whether w lies inside z
pub record Contains (z w : Zone) (r : Bool) : Type 0 where
  pub members : Tight w → T r ↔ Includes z w

-- ---- what the zones to begin with hold, and when they are tight

-- a run: "s ≤ start, end ≤ e, start < end"
pub record IsRun (from to : ℕ) (z : Zone) : Type 0 where
  pub members : (x y : Time) → In z x y ↔ ((at_tick from ≤ᵀ x) × (x <ᵀ y) × (y ≤ᵀ at_tick to))
  pub tight : from < to → Tight z

-- the diagonal: "start = end from 0 to d"
pub record IsDiagonal (from to : ℕ) (z : Zone) : Type 0 where
  pub members : (x y : Time) → In z x y ↔ ((at_tick from ≤ᵀ x) × (x ≈ᵀ y) × (y ≤ᵀ at_tick to))
  pub tight : from ≤ to → Tight z

-- all stretches: "start ≤ end, both in 0 to d"
pub record IsEverything (from to : ℕ) (z : Zone) : Type 0 where
  pub members : (x y : Time) → In z x y ↔ Stretch from to x y
  pub tight : from ≤ to → Tight z

-- a band: "also lo ≤ end − start ≤ hi"
pub record IsBand (from to : ℕ) (longest shortest : Limit) (r : Option Zone) : Type 0 where
  pub members : (x y : Time) → InMaybe r x y ↔ (Stretch from to x y × Within longest y x × Within shortest x y)
  pub tight : TightMaybe r
