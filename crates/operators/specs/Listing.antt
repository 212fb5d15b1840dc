-- What an operator requires and answers, in the slots of a buffer.
use Rattle.std.specs.Prelude.{◌≡◌, List, ℕ, ℤ, Option, Some, None, Result, Ok, Err}
use Rattle.zone.specs.declared.Zone.{Zone}
use Rattle.zone.specs.Zone.{Proper}
use Rattle.list.specs.declared.Overflow.{Overflow}
use Rattle.list.specs.Insert.{Built, listed, overflow}
use Rattle.list.specs.Slots.{Free, Source, Disjoint, Holds}
use Rattle.pairs.specs.Counted.{Counted}
use Rattle.pairs.specs.Pairs.{Touching, crossed}
use Rattle.operators.specs.Operators.{compositions}
use Rattle.operators.specs.declared.Composed.{Composed}

-- the list of one operand, a free slot for the operator's list and one for scratch; no two of the three have a word in common
pub record Workspace (ws : List ℤ) (source n target scratch : ℕ) : Type 0 where
  pub list : Source ws source n
  pub target_free : Free ws target
  pub scratch_free : Free ws scratch
  pub target_apart : Disjoint source target
  pub scratch_apart : Disjoint source scratch
  pub both_apart : Disjoint target scratch

-- a band that zones can be met with
abbrev pub SoundBand : Option Zone → Type 0
SoundBand (Some z) = Proper 0 1_000_000 z
SoundBand None = Unit {0}

-- what an operator answers, where the rule comes to `built`: the slot at `target` holds the list, or one would have 129 zones and the slot is free
pub record Listing (built : Built) (vs : List ℤ) (target n : ℕ) : Type 0 where
  pub list : List Zone
  pub value : built ≡ listed list
  pub holds : Holds vs target n list

abbrev pub BuiltAs : Built → List ℤ → ℕ → Result ℕ Overflow → Type 0
BuiltAs built vs target (Ok n) = Listing built vs target n
BuiltAs built vs target (Err e) = (built ≡ overflow) × Free vs target

-- what `.` answers, of the lists A and B: the list, "how many pairs it composed: exactly those with such a time in common"; what one that is not
-- finished has composed is not told
abbrev pub ComposedAs : List Zone → List Zone → List ℤ → ℕ → Result Composed Overflow → Type 0
ComposedAs A B vs target (Ok c) = Listing (compositions A B) vs target c.count × Counted Touching (crossed A B) c.pairs
ComposedAs A B vs target (Err e) = (compositions A B ≡ overflow) × Free vs target
