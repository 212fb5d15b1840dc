-- What a buffer holds of a file with room for one byte more than is accepted: the file, or too much of it to be accepted.
use mathlib.Core.Path.{◌≡◌, sym, ◌∙◌}
use mathlib.Core.Logic.{◌⊎◌, inl, inr}
use mathlib.Core.List.{List}
use Prim.Native.Nat.{ℕ, ◌≤◌, ◌<◌}
use native.Mathlib.Decide.{dec_le}
use native.Mathlib.Omega.{arith}
use lib.ListN.{length, take, length-take}
use lib.Seq.{take_all, take-take}
use Rattle.files.specs.Files.{HoldsFile}

-- what was read may itself be the file, so that something is promised of every buffer
pub itself : {n : ℕ} {buffer : List ℕ} → n ≤ length buffer → HoldsFile buffer n (take n buffer)
itself {n} {buffer} h = record { count = omega (arith, length-take n buffer); bytes = sym (take-take n n buffer (omega arith)) }

pub held : {most n : ℕ} {buffer file : List ℕ} → most < length buffer → HoldsFile buffer n file
    → (take n buffer ≡ file) ⊎ ((most < length (take n buffer)) × (most < length file))
held {n = n} {buffer = buffer} {file = file} room h = elim (dec_le (length file) (length buffer)) [
  | yes k ↦ inl (h.bytes ∙ take_all n file (omega (arith, h.count)))
  | no k ↦ inr (omega (arith, h.count, length-take n buffer), omega arith)
]
