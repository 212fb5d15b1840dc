-- What the private functions answer. No public contract cites it.
use Rattle.std.specs.Prelude.{◌≡◌, Bool, true, false, List, ℕ, Option, Some, None, Result, Ok, Err}
use Rattle.zone.specs.declared.Zone.{Zone}
use Rattle.list.specs.Members.{Apart}
use Rattle.list.specs.declared.Overflow.{Overflow}
use Rattle.growing.specs.declared.Latest.{Latest}
use Rattle.growing.specs.declared.Growing.{Growing}
use Rattle.growing.specs.Growth.{NotLater, NoLater}

-- z starts later, and so lies apart from every list that does not; or nothing is said
abbrev pub LaterAs : Latest → Zone → Bool → Type 0
LaterAs latest z true = (L : List Zone) → NoLater latest L → Apart z L
LaterAs latest z false = Unit {0}

-- z starts no later than r, and so does whatever starts no later than `latest`
pub record Takes (latest : Latest) (z : Zone) (r : Latest) : Type 0 where
  pub new : NotLater r z
  pub others : (y : Zone) → NotLater latest y → NotLater r y

-- the list that stood as g, after the answer to a put of z
abbrev pub GrownBy : Growing → Zone → Result (Option ℕ) Overflow → Result Growing Overflow → Type 0
GrownBy g z (Ok None) r = r ≡ Ok g
GrownBy g z (Ok (Some n)) r = (latest : Latest) × Takes g.latest z latest × (r ≡ Ok (record { count = n; changed = 1; pairs = g.pairs; latest = latest }))
GrownBy g z (Err e) r = r ≡ Err e
