-- Private contracts alone cite this file: the ends as they are put together from a list of zones.
use Rattle.std.specs.Prelude.{ℕ, suc, ℤ, pos, negsuc, Option, Some, None}
use Rattle.limit.specs.declared.Limit.{Limit}
use Rattle.limit.specs.declared.Limit.TheVariants.{AtMost, Below}
use Rattle.limit.specs.Limit.{greater}
use Rattle.extremes.specs.declared.Seen.{Seen}
use Rattle.extremes.specs.Ends.{Extreme, Reached, Unreached, Ends}
use Rattle.zone.specs.declared.Zone.{Zone}

-- one answer of a composition more
abbrev pub see : Option Seen → Option Zone → Option Seen
see seen None = seen
see None (Some z) = Some (record { end = z.end; nend = z.nend })
see (Some s) (Some z) = Some (record { end = greater s.end z.end; nend = greater s.nend z.nend })

-- how far a number is above 0, and how far below
abbrev pub above : ℤ → ℕ
above (pos n) = n
above (negsuc n) = 0

abbrev pub under : ℤ → ℕ
under (pos n) = 0
under (negsuc n) = suc n

-- the end of a greatest limit on the end, and of one on the negated end
abbrev pub latest : Limit → Extreme
latest (AtMost v) = Reached (above v)
latest (Below v) = Unreached (above v)

abbrev pub earliest : Limit → Extreme
earliest (AtMost v) = Reached (under v)
earliest (Below v) = Unreached (under v)

abbrev pub told : Option Seen → Option Ends
told None = None
told (Some s) = Some (record { earliest = earliest s.nend; latest = latest s.end })
