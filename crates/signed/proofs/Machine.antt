-- A signed local holds bits: where the source says x the machine reads `to_z w (of_z w x)`, which is x where x fits.
--     back fx    the number read back
use mathlib.Core.Path.{◌≡◌}
use Prim.Native.Nat.{◌<◌}
use lib.IntN.{ℤ}
use lib.Signed.{mag}
use mir.Syntax.{w32}
use mir.Val.{SFits, to_z, of_z}
use mir.ValLaws.{to_z-of_z}

pub fits_by : {z : ℤ} → mag z < 2147483648 → SFits w32 z
fits_by h = record { sfits = h }

pub back : {z : ℤ} → SFits w32 z → to_z w32 (of_z w32 z) ≡ z
back {z} f = to_z-of_z w32 z f
