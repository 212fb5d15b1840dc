-- The text of a drill without its final newline.
use mathlib.Core.Bool.{Bool, true, false, cond}
use mathlib.Core.List.{List}
use Prim.Native.Nat.{ℕ, suc, ◌-◌, ◌≤◌}
use native.Mathlib.Omega.{arith}
use lib.Dec.{eqb}
use lib.ListN.{length, get_or, take, length-take}
use Rattle.files.specs.Files.{trimmed}

-- at most one byte is dropped
pub trimmed_length : (text : List ℕ) → length text ≤ suc (length (trimmed text))
unfolding trimmed
trimmed_length text = go (eqb (get_or text (length text - 1) 0) 10)
  where
    go : (t : Bool) → length text ≤ suc (length (cond t (take (length text - 1) text) text))
    go true = omega (arith, length-take (length text - 1) text)
    go false = omega arith
