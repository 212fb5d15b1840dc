-- Private contracts alone cite this file: a byte put into the store, and the search for the newline of a place.
use Rattle.std.specs.Prelude.{◌≡◌, cond, ◌&&◌, List, ℕ, ◌+◌, ◌*◌, ◌<◌, ◌≤◌, ltb, get_or, set}
use Rattle.lines.specs.Lines.{most_lines, newline}
use Rattle.lines.specs.Taken.{place_bytes}

-- the store with b as byte i of line k, where that line has a place and the place has room
unfoldable pub kept : (store : List ℕ) (k i b : ℕ) → List ℕ
kept store k i b = cond (ltb k most_lines && ltb i place_bytes) (set store (k * place_bytes + i) b) store

-- n bytes of place k stand before its first newline, all of them where it has none
pub record LengthAs (store : List ℕ) (k n : ℕ) : Type 0 where
  pub few : n ≤ place_bytes
  pub before : (i : ℕ) → i < n → ¬ (get_or store (k * place_bytes + i) 0 ≡ newline)
  pub found : n < place_bytes → get_or store (k * place_bytes + n) 0 ≡ newline
