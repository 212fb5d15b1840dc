-- How far the starts of zones reach, block by block.
use mathlib.Core.List.{List, Memᴰ}
use Rattle.std.specs.Prelude.{ℕ, ◌+◌, ◌-◌, ◌*◌, ◌<◌, min, ℤ}
use Rattle.limit.specs.Limit.{◌≤ᴸ◌, decode}
use Rattle.zone.specs.declared.Zone.{Zone}
use Rattle.words.specs.Words.{zone_words, word}
use Rattle.list.specs.Slots.{list_at}

-- the zones of a block
abbrev pub block_zones : ℕ
block_zones = 16

-- the words of the hulls of a list of 128 zones
abbrev pub hull_words : ℕ
hull_words = 16

-- no limit of z on start is above that of the one word, and none on −start above that of the other
pub record Under (s ns : ℤ) (z : Zone) : Type 0 where
  pub start : z.start ≤ᴸ decode s
  pub nstart : z.nstart ≤ᴸ decode ns

-- .. and so for every listed zone
abbrev pub Covers : ℤ → ℤ → List Zone → Type 0
Covers s ns L = (z : Zone) → Memᴰ z L → Under s ns z

-- block b of the n zones from `base` on; the last one has what is left
abbrev pub block : List ℤ → ℕ → ℕ → ℕ → List Zone
block ws base n b = list_at ws (base + b * block_zones * zone_words) (min (n - b * block_zones) block_zones)

-- each block's zones lie under its hull, whose two words stand behind those of the hulls before it; a list of one block has none
pub record Hulls (hs ws : List ℤ) (base n : ℕ) : Type 0 where
  pub cover : block_zones < n → (b : ℕ) → b * block_zones < n → Covers (word hs (b * 2)) (word hs (b * 2 + 1)) (block ws base n b)
