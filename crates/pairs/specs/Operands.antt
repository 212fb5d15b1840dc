-- What the loops that put zones require, in the slots of a buffer.
use Rattle.std.specs.Prelude.{List, ℕ, ℤ}
use Rattle.list.specs.Slots.{Slot, Source, Disjoint}

-- a list, and the slot of `count` zones that puts of its zones, or of what comes of them, go into; they have no word in common
pub record Supply (ws : List ℤ) (source n target count : ℕ) : Type 0 where
  pub list : Source ws source n
  pub slot : Slot ws target count
  pub apart : Disjoint source target

-- the lists of two operands, and one such slot
pub record Operands (ws : List ℤ) (left n right m target count : ℕ) : Type 0 where
  pub lefts : Supply ws left n target count
  pub rights : Supply ws right m target count
