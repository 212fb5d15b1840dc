-- The rounds of a value with rounds before it.
use mathlib.Core.Path.{◌≡◌, refl}
use Prim.Native.Nat.{ℕ, ◌+◌}
use Rattle.purse.specs.Value.{Value, value, overflow, begun, spent, with_rounds}

pub begun_with : (r : ℕ) (v : Value) → begun (with_rounds r v) ≡ r + begun v
begun_with r (value L s) = refl
begun_with r (overflow b f) = refl

pub spent_with : (r : ℕ) (v : Value) → spent (with_rounds r v) ≡ r + spent v
spent_with r (value L s) = refl
spent_with r (overflow b f) = refl
