-- What the private functions answer. No public contract cites it.
use Rattle.std.specs.Prelude.{◌≡◌, Bool, true, false, List, ◌++◌, ℕ, ◌+◌, ◌-◌, ◌*◌, ◌≤◌, ◌<◌, ℤ, Result, Ok, Err}
use Rattle.zone.specs.declared.Zone.{Zone}
use Rattle.words.specs.Words.{zone_words, zone_at, codes, overwrite}
use Rattle.zone.specs.Zone.{contains}
use Rattle.list.specs.Insert.{capacity, covered, outside}
use Rattle.list.specs.Slots.{slot_words, list_at, Kept, Copied}
use Rattle.list.specs.declared.Look.{Look}
use Rattle.list.specs.declared.Look.TheVariants.{Held, Apart, One, Several}
use Rattle.list.specs.declared.Overflow.{Overflow}

-- a zone that lies inside the new one is left out; any other is copied from `from` behind the zones kept so far
abbrev pub KeepsAs : Bool → ℕ → ℕ → ℕ → List ℤ → List ℤ → ℕ → Type 0
KeepsAs true from base kept ws vs r = (r ≡ kept) × (vs ≡ ws)
KeepsAs false from base kept ws vs r = (r ≡ kept + 1) × Copied from (base + kept * zone_words) zone_words ws vs

-- the first i of n zones have been gone through: those outside z are the first `kept`, and the rest are where they were
pub record Sifting (z : Zone) (base n : ℕ) (ws₀ ws : List ℤ) (kept i : ℕ) : Type 0 where
  pub fewer : kept ≤ i
  pub most : i ≤ n
  pub value : outside z (list_at ws₀ base n) ≡ list_at ws base kept ++ outside z (list_at ws (base + i * zone_words) (n - i))
  pub frame : Kept base slot_words ws₀ ws

-- no listed zone holds z, and none of the first k lies inside it
pub record Clear (z : Zone) (ws : List ℤ) (base n k : ℕ) : Type 0 where
  pub most : k ≤ n
  pub new : covered z (list_at ws base n) ≡ false
  pub front : outside z (list_at ws base k) ≡ list_at ws base k

-- .. and zone k does lie inside it: the first that gives way to z
pub record Yields (z : Zone) (ws : List ℤ) (base n k : ℕ) : Type 0 where
  pub some : k < n
  pub clear : Clear z ws base n k
  pub inside : contains z (zone_at ws (base + k * zone_words)) ≡ true

-- .. and the only one
pub record Alone (z : Zone) (ws : List ℤ) (base n k : ℕ) : Type 0 where
  pub yields : Yields z ws base n k
  pub left : outside z (list_at ws base n) ≡ list_at ws base k ++ list_at ws (base + k * zone_words + zone_words) (n - k - 1)

-- a listed zone holds z; or none does, and none of the n zones lies inside it, zone k alone does, or zone k is the first of any number: the rest
-- are to be gone through
abbrev pub LookAs : Zone → List ℤ → ℕ → ℕ → Look → Type 0
LookAs z ws base n Held = covered z (list_at ws base n) ≡ true
LookAs z ws base n Apart = Clear z ws base n n
LookAs z ws base n (One k) = Alone z ws base n k
LookAs z ws base n (Several k) = Yields z ws base n k

-- whatever list was seen so as far as its zone i, which does not hold z and lies inside it, is seen as r behind it
abbrev pub AlsoAs : Look → ℕ → Look → Type 0
AlsoAs seen i r = (z : Zone) (ws : List ℤ) (base : ℕ) → LookAs z ws base i seen → contains (zone_at ws (base + i * zone_words)) z ≡ false → contains z (zone_at ws (base + i * zone_words)) ≡ true → LookAs z ws base (i + 1) r

-- z goes behind the first n zones, unless there are 128
abbrev pub AppendAs : Zone → List ℤ → ℕ → ℕ → List ℤ → Result ℕ Overflow → Type 0
AppendAs z ws base n vs (Ok m) = (m ≡ n + 1) × (n < capacity) × (vs ≡ overwrite ws (base + n * zone_words) (codes z))
AppendAs z ws base n vs (Err e) = (capacity ≤ n) × (vs ≡ ws)
