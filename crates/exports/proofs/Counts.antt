-- Two counts written one after the other.
use mathlib.Core.Path.{◌≡◌, refl}
use mathlib.Core.List.{List, [], ◌∷◌}
use Prim.Native.Nat.{ℕ, ◌≤◌}
use native.Mathlib.Omega.{arith}
use lib.ListN.{length, set, drop}

pub two : (cs : List ℕ) (a b : ℕ) → 2 ≤ length cs → set (set cs 0 a) 1 b ≡ a ∷ b ∷ drop 2 cs
two [] a b h = absurd (omega arith)
two (c ∷ []) a b h = absurd (omega arith)
two (c ∷ d ∷ cs) a b h = refl
