-- The closed form of a tight zone, on its limits alone. Tight.antt proves that it is what tight means.
use Rattle.std.specs.Prelude.{Option, Some, None}
use Rattle.limit.specs.Limit.{◌≤ᴸ◌, ◌⊕◌, nought}
use Rattle.zone.specs.Zone.{Zone}

-- no limit exceeds the sum of two others on the same way, no way round is negative, and 0 ≤ start ≤ end is among the limits
pub record Closed (z : Zone) : Type 0 where
  pub start : z.start ≤ᴸ z.nlength ⊕ z.end
  pub nstart : z.nstart ≤ᴸ z.nend ⊕ z.length
  pub end : z.end ≤ᴸ z.length ⊕ z.start
  pub nend : z.nend ≤ᴸ z.nstart ⊕ z.nlength
  pub length : z.length ≤ᴸ z.end ⊕ z.nstart
  pub nlength : z.nlength ≤ᴸ z.start ⊕ z.nend
  pub round_start : nought ≤ᴸ z.start ⊕ z.nstart
  pub round_end : nought ≤ᴸ z.end ⊕ z.nend
  pub round_length : nought ≤ᴸ z.length ⊕ z.nlength
  pub after_0 : z.nstart ≤ᴸ nought
  pub onward : z.nlength ≤ᴸ nought

abbrev pub ClosedMaybe : Option Zone → Type 0
ClosedMaybe (Some z) = Closed z
ClosedMaybe None = Unit {0}
