-- What puts into a list that is there already answer.
use Rattle.std.specs.Prelude.{◌≡◌, ℕ, zero, suc, ◌+◌, ℤ, Option, Result, Ok, Err}
use mathlib.Core.List.{List, Memᴰ}
use Rattle.limit.specs.Limit.{◌≤ᴸ◌, decode}
use Rattle.zone.specs.declared.Zone.{Zone}
use Rattle.list.specs.declared.Overflow.{Overflow}
use Rattle.list.specs.Insert.{Built, listed, overflow, insert_each}
use Rattle.list.specs.Members.{Covered}
use Rattle.list.specs.Slots.{Free, Slot, list_at, Holds, Sound}
use Rattle.growing.specs.declared.Latest.{Latest}
use Rattle.growing.specs.declared.Growing.{Growing}

-- z starts no later: neither its upper limit on start nor its lower one is later
pub record NotLater (latest : Latest) (z : Zone) : Type 0 where
  pub start : z.start ≤ᴸ decode latest.start
  pub nstart : decode latest.nstart ≤ᴸ z.nstart

-- .. and so does every listed zone
abbrev pub NoLater : Latest → List Zone → Type 0
NoLater latest L = (z : Zone) → Memᴰ z L → NotLater latest z

-- no list of zones that can be combined starts later
abbrev pub Unsurpassed : Latest → Type 0
Unsurpassed latest = (L : List Zone) → Sound L → NoLater latest L

-- the growing list g stands in the slot at `target`
pub record Stands (ws : List ℤ) (target : ℕ) (g : Growing) : Type 0 where
  pub slot : Slot ws target g.count
  pub late : NoLater g.latest (list_at ws target g.count)

-- a list of n zones before the first put
pub record Begins (n : ℕ) (g : Growing) : Type 0 where
  pub count : g.count ≡ n
  pub changed : g.changed ≡ 0
  pub pairs : g.pairs ≡ 0

-- whether puts changed the list S into M: a mark in the place of a comparison, 0 where they did not. A zone that was placed stays covered, and was not before
abbrev pub Alters : ℕ → List Zone → List Zone → Type 0
Alters zero S M = M ≡ S
Alters (suc n) S M = (x : Zone) × Covered x M × ¬ Covered x S

-- the list L that stood as g, grown by puts that come to `built`, for which as many pairs were composed as `Counts` says; a mark that said
-- whether some list S has changed into L now says it of the new list
pub record Growth (built : Built) (Counts : ℕ → Type 0) (g : Growing) (L : List Zone) (vs : List ℤ) (target : ℕ) (h : Growing) : Type 0 where
  pub list : List Zone
  pub value : built ≡ listed list
  pub holds : Holds vs target h.count list
  pub alters : (S : List Zone) → Alters g.changed S L → Alters h.changed S list
  pub composed : ℕ
  pub counted : Counts composed
  pub pairs : h.pairs ≡ g.pairs + composed
  pub late : NoLater h.latest list

-- .. or one of the puts would leave 129 zones, and the slot is free; how many pairs were composed until then is not told
abbrev pub GrownAs : Built → (ℕ → Type 0) → Growing → List Zone → List ℤ → ℕ → Result Growing Overflow → Type 0
GrownAs built Counts g L vs target (Ok h) = Growth built Counts g L vs target h
GrownAs built Counts g L vs target (Err e) = (built ≡ overflow) × Free vs target

-- no pair
abbrev pub NoPair : ℕ → Type 0
NoPair n = n ≡ 0

-- the zones `offered`, put into the list that stands as g among the words ws, with the words vs after
abbrev pub GrowsAs : List (Option Zone) → (ℕ → Type 0) → Growing → List ℤ → ℕ → List ℤ → Result Growing Overflow → Type 0
GrowsAs offered Counts g ws target vs = GrownAs (insert_each offered (list_at ws target g.count)) Counts g (list_at ws target g.count) vs target
