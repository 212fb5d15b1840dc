-- A file in a buffer, and the text of a drill in a file.
use Rattle.std.specs.Prelude.{◌≡◌, cond, List, ℕ, ◌-◌, min, eqb, length, get_or, take}

-- "one final newline is dropped"
unfoldable pub trimmed : List ℕ → List ℕ
trimmed text = cond (eqb (get_or text (length text - 1) 0) 10) (take (length text - 1) text) text

-- the first n bytes of a buffer are those of a file: all that the file has, or as many as the buffer has room for
pub record HoldsFile (buffer : List ℕ) (n : ℕ) (file : List ℕ) : Type 0 where
  pub count : n ≡ min (length file) (length buffer)
  pub bytes : take n buffer ≡ take n file
