-- Private contracts alone cite this file: what a cleared buffer is.
use Rattle.std.specs.Prelude.{◌≡◌, List, ℕ, ◌≤◌, ◌<◌, ℤ, pos, length, get_or}

-- there are n words and the first n are zero
abbrev pub Zero : List ℤ → ℕ → Type 0
Zero words n = (n ≤ length words) × ((i : ℕ) → i < n → get_or words i (pos 0) ≡ pos 0)
