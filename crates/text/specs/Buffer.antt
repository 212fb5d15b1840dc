-- A text in a lent buffer, which goes into it piece by piece.
use Rattle.std.specs.Prelude.{◌≡◌, cond, List, [], ◌∷◌, ◌++◌, ℕ, ◌+◌, leb, length, take, drop, Option, Some, None}
use Rattle.text.specs.declared.Text.{Text}

-- what a buffer holds once a text is written from its front: as much of the text as it has room for, what is behind the text as it was
unfoldable pub onto : List ℕ → List ℕ → List ℕ
onto text out = take (length out) text ++ drop (length text) out

-- that so many bytes are written, or that the buffer is shorter
unfoldable pub fitted : ℕ → ℕ → Option ℕ
fitted size room = cond (leb size room) (Some size) None

-- what a buffer holds once a piece is put behind the bytes so far; behind a text that had no room nothing is put
unfoldable pub behind : List ℕ → Option ℕ → List ℕ → List ℕ
behind piece (Some n) out = take n out ++ onto piece (drop n out)
behind piece None out = out

-- and what is answered then; a piece without a byte changes nothing
unfoldable pub written_after : List ℕ → Option ℕ → ℕ → Option ℕ
written_after [] w room = w
written_after (b ∷ s) (Some n) room = fitted (n + length (b ∷ s)) room
written_after (b ∷ s) None room = None

-- what a step from `out` and w to `out'` and w' does: the piece goes behind what is written so far
pub record Appends (piece out : List ℕ) (w : Option ℕ) (out' : List ℕ) (w' : Option ℕ) : Type 0 where
  pub bytes : out' ≡ behind piece w out
  pub answer : w' ≡ written_after piece w (length out)

-- a text before its first piece
pub record Begins (out : List ℕ) (t : Text) : Type 0 where
  pub bytes : t.out.now ≡ out
  pub answer : t.written ≡ Some 0

-- what a step from one text to the next does: the same buffer has the piece behind what is written so far
pub record Puts (piece : List ℕ) (before after : Text) : Type 0 where
  pub same : after.out.ghost_name ≡ before.out.ghost_name
  pub step : Appends piece before.out.now before.written after.out.now after.written
