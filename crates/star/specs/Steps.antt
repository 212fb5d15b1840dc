-- What the private functions answer. No public contract cites it.
use Rattle.std.specs.Prelude.{◌≡◌, ◌⊎◌, List, ℕ, ℤ, Option, Some, None, Result, Ok, Err}
use Rattle.zone.specs.declared.Zone.{Zone}
use Rattle.list.specs.declared.Overflow as list_error
use Rattle.list.specs.Insert.{listed, overflow}
use Rattle.purse.specs.declared.Stopped.{Stopped}
use Rattle.purse.specs.declared.Stopped.TheVariants.{Overflow, Spent}
use Rattle.purse.specs.Purse.{Standing, Overflowed, Exceeding}
use Rattle.star.specs.Star.{Rounds, round}
use Rattle.list.specs.Slots.{Free, list_at, Holds, Sound}
use Rattle.pairs.specs.Counted.{Counted}
use Rattle.pairs.specs.Pairs.{Touching, crossed}
use Rattle.star.specs.declared.Round.{Round}
use Rattle.star.specs.declared.Ended.{Ended}

-- one round from the list L, into the slot at `copy`
pub record Changes (inner L : List Zone) (vs : List ℤ) (copy n : ℕ) : Type 0 where
  pub list : List Zone
  pub value : round inner L ≡ listed list
  pub new : ¬ (list ≡ L)
  pub holds : Holds vs copy n list

-- .. or the round changes nothing; in this the slot is free
abbrev pub Changed : List Zone → List Zone → List ℤ → ℕ → Option ℕ → Type 0
Changed inner L vs copy None = (round inner L ≡ listed L) × Free vs copy
Changed inner L vs copy (Some n) = Changes inner L vs copy n

-- each with as many pairs composed as touch; or one of its puts would leave 129 zones, and the slot is free
abbrev pub RoundAs : List Zone → List Zone → List ℤ → ℕ → Result Round list_error.Overflow → Type 0
RoundAs inner L vs copy (Ok r) = Changed inner L vs copy r.changed × Counted Touching (crossed L inner) r.pairs
RoundAs inner L vs copy (Err e) = (round inner L ≡ overflow) × Free vs copy

-- all rounds: the last list stands at `at`, one of the two slots, and the other is free
pub record Ending (inner : List Zone) (told first second : ℕ) (vs : List ℤ) (at n left : ℕ) : Type 0 where
  pub standing : Standing (Rounds inner inner) told vs at n left
  pub sound : Sound (list_at vs at n)
  pub place : (at ≡ first) ⊎ (at ≡ second)
  pub first_free : Free vs first
  pub second_free : Free vs second

-- .. or one of them overflows, or there is one more to be begun than told; then both are free
abbrev pub EndsAs : List Zone → ℕ → ℕ → ℕ → List ℤ → Result Ended Stopped → Type 0
EndsAs inner told first second vs (Ok e) = Ending inner told first second vs e.at e.count e.left
EndsAs inner told first second vs (Err (Overflow left)) = Overflowed (Rounds inner inner) told left × Free vs first × Free vs second
EndsAs inner told first second vs (Err Spent) = Exceeding (Rounds inner inner) told × Free vs first × Free vs second
