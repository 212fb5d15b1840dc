-- Lists of zones in the words of a buffer. A slot has room for 128 zones of six words.
use Rattle.std.specs.Prelude.{◌≡◌, ◌⊎◌, List, [], ◌∷◌, ℕ, zero, suc, ◌+◌, ◌*◌, ◌≤◌, ◌<◌, ℤ, length, Option, Some, None, Result, Ok, Err}
use Rattle.zone.specs.declared.Zone.{Zone}
use Rattle.words.specs.Words.{zone_words, word, zone_at}
use Rattle.list.specs.Insert.{capacity, away, placed, overflow, insert}
use Rattle.list.specs.Members.{AllProper}
use Rattle.list.specs.declared.Overflow.{Overflow}

-- the words of a slot
abbrev pub slot_words : ℕ
slot_words = capacity * zone_words

-- the slot at `base` is free: all of its words are in the buffer, and they may be any. This is required of a slot that a function writes, and it
-- is all that is promised of a slot after an overflow, and of one that served for scratch
abbrev pub Free : List ℤ → ℕ → Type 0
Free ws base = base + slot_words ≤ length ws

-- a slot of the buffer with n zones in it; its words behind them are free, they may be any
pub record Slot (ws : List ℤ) (base n : ℕ) : Type 0 where
  pub few : n ≤ capacity
  pub room : Free ws base

-- the n zones whose words stand from `base` on
unfoldable pub list_at : List ℤ → ℕ → ℕ → List Zone
list_at ws base zero = []
list_at ws base (suc n) = zone_at ws base ∷ list_at ws (base + zone_words) n

-- the slot at `base` holds the list L of n zones; its words behind them are free, they may be any
pub record Holds (ws : List ℤ) (base n : ℕ) (L : List Zone) : Type 0 where
  pub count : length L ≡ n
  pub few : n ≤ capacity
  pub zones : list_at ws base n ≡ L

-- every word outside the `size` words from `base` on is as it was, and there are as many words; those `size` words are free, but for what is
-- said of them beside this
pub record Kept (base size : ℕ) (ws vs : List ℤ) : Type 0 where
  pub same_length : length vs ≡ length ws
  pub below : (k : ℕ) → k < base → word vs k ≡ word ws k
  pub above : (k : ℕ) → base + size ≤ k → word vs k ≡ word ws k

-- the same of two slots
pub record KeptBoth (a b : ℕ) (ws vs : List ℤ) : Type 0 where
  pub same_length : length vs ≡ length ws
  pub others : (k : ℕ) → (k < a) ⊎ (a + slot_words ≤ k) → (k < b) ⊎ (b + slot_words ≤ k) → word vs k ≡ word ws k

-- n words copied from `from` to `to`, all others as they were
pub record Copied (from to n : ℕ) (ws vs : List ℤ) : Type 0 where
  pub moved : (k : ℕ) → k < n → word vs (to + k) ≡ word ws (from + k)
  pub kept : Kept to n ws vs

-- the zones that are combined: tight and inside 0..1,000,000, so that the machine's numbers have room
abbrev pub Sound : List Zone → Type 0
Sound L = AllProper 0 1_000_000 L

-- a slot whose n zones are combined with others
pub record Source (ws : List ℤ) (base n : ℕ) : Type 0 where
  pub few : n ≤ capacity
  pub room : Free ws base
  pub sound : Sound (list_at ws base n)

-- two slots have no word in common
abbrev pub Disjoint : ℕ → ℕ → Type 0
Disjoint a b = (a + slot_words ≤ b) ⊎ (b + slot_words ≤ a)

-- what a put answers: of a slot with n zones among the words ws before, and vs after
pub record Placement (z : Zone) (ws : List ℤ) (base n : ℕ) (vs : List ℤ) (m : ℕ) : Type 0 where
  pub list : List Zone
  pub value : insert z (list_at ws base n) ≡ placed list
  pub holds : Holds vs base m list
  pub kept : Kept base slot_words ws vs

-- .. a zone that is turned away, and one that would be the 129th, leave every word as it was
abbrev pub InsertAs : Zone → List ℤ → ℕ → ℕ → List ℤ → Result (Option ℕ) Overflow → Type 0
InsertAs z ws base n vs (Ok None) = (insert z (list_at ws base n) ≡ away) × (vs ≡ ws)
InsertAs z ws base n vs (Ok (Some m)) = Placement z ws base n vs m
InsertAs z ws base n vs (Err e) = (insert z (list_at ws base n) ≡ overflow) × (vs ≡ ws)
