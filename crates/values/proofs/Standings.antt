-- What was built in a slot, as the value of an operator.
use Rattle.std.specs.Prelude.{Option, Some, None, Result, Ok, Err}
use mathlib.Core.Path.{◌≡◌, refl, sym, ap}
use mathlib.Core.List.{List}
use Prim.Native.Nat.{ℕ, ◌+◌, ◌≤◌}
use native.Mathlib.Omega.{arith}
use lib.IntN.{ℤ}
use mathlib.Core.Logic.{inl, inr}
use Rattle.limit.specs.Limit.{Small, most_ticks}
use Rattle.zone.specs.declared.Zone.{Zone}
use Rattle.zone.proofs.Laws.{proper_within, proper_band}
use Rattle.limit.proofs.Means.{small_most, small_least}
use Rattle.list.specs.Insert as puts
use Rattle.list.specs.Insert.{Built}
use Rattle.list.specs.Slots.{slot_words, list_at, Kept, KeptBoth}
use Rattle.operators.specs.Listing.{SoundBand, Listing, BuiltAs}
use Rattle.list.proofs.Copies.{brought}
use Rattle.expression.specs.declared.Range.{Range}
use Rattle.expression.specs.declared.End.{End}
use Rattle.expression.specs.declared.End.TheVariants.{Closed, Open}
use Rattle.expression.specs.Refusal.{figure, Wrong}
use Rattle.expression.proofs.Laws.{right_range}
use Rattle.meaning.specs.Satisfies.{upper_limit, lower_limit}
use Rattle.meaning.specs.Lists.{Value, ended, longest, range_band}
use Rattle.list.specs.declared.Overflow as list_error
use Rattle.purse.specs.declared.Listed.{Listed}
use Rattle.purse.specs.declared.Stopped.{Stopped}
use Rattle.purse.specs.declared.Stopped.TheVariants.{Overflow, Spent}
use Rattle.values.specs.Steps.{unspent, Bringable, BroughtAs}
use Rattle.purse.specs.Purse.{Standing, Overflowed, EvaluatedAs}

-- ---- a value that is said in another way

pub evaluated_map : (P Q : Value → Type 0) (told : ℕ) (ws : List ℤ) (base : ℕ) → ((v : Value) → P v → Q v) → (r : Result Listed Stopped) → EvaluatedAs P told ws base r → EvaluatedAs Q told ws base r
evaluated_map P Q told ws base f (Ok l) s = record { list = s.list; rounds = s.rounds; means = f _ s.means; spends = s.spends; holds = s.holds }
evaluated_map P Q told ws base f (Err (Overflow left)) s =
    let o = s.overflowing in record { overflowing = record { opened = o.opened; done = o.done; means = f _ o.means; within = o.within }; spends = s.spends }
evaluated_map P Q told ws base f (Err Spent) x = record { whole = x.whole; means = f _ x.means; beyond = x.beyond }

-- ---- a list that was built without rounds

-- no list: the value overflows
pub over : {b : Built} (left : ℕ) → b ≡ puts.overflow → Overflowed (λ v. v ≡ ended b) left left
over left e = record { overflowing = record { opened = 0; done = 0; means = ap ended (sym e); within = omega arith }; spends = omega arith }

-- a list where it was built
pub stands : {b : Built} {ws : List ℤ} {base n : ℕ} (left : ℕ) → Listing b ws base n → Standing (λ v. v ≡ ended b) left ws base n left
stands left l = record { list = l.list; rounds = 0; means = ap ended (sym l.value); spends = omega arith; holds = l.holds }

-- either
pub built_value : (b : Built) (ws : List ℤ) (base left : ℕ) (r : Result ℕ list_error.Overflow) → BuiltAs b ws base r → EvaluatedAs (λ v. v ≡ ended b) left ws base (unspent r left)
built_value b ws base left (Ok n) l = stands left l
built_value b ws base left (Err e) o = over left o.0

-- ---- a list brought to another slot

pub stands_brought : {comes : Value → Type 0} {told : ℕ} {ws vs : List ℤ} {at base n left : ℕ} → Standing comes told ws at n left → list_at vs base n ≡ list_at ws at n
    → Standing comes told vs base n left
stands_brought s e = record { list = s.list; rounds = s.rounds; means = s.means; spends = s.spends; holds = brought s.holds e }

module _ (comes : Value → Type 0) (told : ℕ) (ws : List ℤ) (at : ℕ) where
  pub value_few : (r : Result Listed Stopped) → EvaluatedAs comes told ws at r → Bringable r
  value_few (Ok l) s = s.holds.few
  value_few (Err (Overflow left)) o = tt
  value_few (Err Spent) x = tt

  -- where there is none, the words say nothing
  pub value_brought : (vs : List ℤ) (base : ℕ) (r q : Result Listed Stopped) → EvaluatedAs comes told ws at r → BroughtAs ws at r vs base q → EvaluatedAs comes told vs base q
  value_brought vs base (Ok l) q s b = rw b.0 (stands_brought s b.1)
  value_brought vs base (Err (Overflow left)) q o b = rw b o
  value_brought vs base (Err Spent) q x b = rw b x

-- ---- words written in two slots of a region

pub kept_region : {a b base size : ℕ} {ws vs : List ℤ} → base ≤ a → a + slot_words ≤ base + size → base ≤ b → b + slot_words ≤ base + size → KeptBoth a b ws vs → Kept base size ws vs
kept_region h g i j k =
    record {
      same_length = k.same_length;
      below = λ n l. k.others n (inl (omega arith)) (inl (omega arith));
      above = λ n l. k.others n (inr (omega arith)) (inr (omega arith));
    }

-- ---- the band of a range

pub band_sound : (from to : ℕ) (r : Range) → to ≤ 1_000_000 → SoundBand (range_band from to r)
band_sound from to r h = go (range_band from to r) refl
  where
    go : (b : Option Zone) → range_band from to r ≡ b → SoundBand b
    go (Some z) e = proper_within (omega arith) h (proper_band from to (longest from to r.hi) (lower_limit r.lo) e)
    go None e = tt

-- the ends of a right range are small
pub lower_small : (r : Range) → (Wrong r → ⊥) → figure r.lo ≤ most_ticks
lower_small r w = (right_range r.lo r.hi w).0

pub upper_small : (r : Range) (hi : End) → r.hi ≡ Some hi → (Wrong r → ⊥) → figure hi ≤ most_ticks
upper_small r hi e w = (rw e at (right_range r.lo r.hi w).1).1

-- and so are the limits that they set
pub small_lower : (e : End) → figure e ≤ most_ticks → Small most_ticks (lower_limit e)
small_lower (Closed n) h = small_least h
small_lower (Open n) h = small_least h

small_upper : (e : End) → figure e ≤ most_ticks → Small most_ticks (upper_limit e)
small_upper (Closed n) h = small_most h
small_upper (Open n) h = small_most h

pub small_longest : (from to : ℕ) (r : Range) → to ≤ most_ticks → (Wrong r → ⊥) → Small most_ticks (longest from to r.hi)
small_longest from to r h w = go r.hi refl
  where
    go : (u : Option End) → r.hi ≡ u → Small most_ticks (longest from to u)
    go None e = small_most (omega arith)
    go (Some hi) e = small_upper hi (upper_small r hi e w)
