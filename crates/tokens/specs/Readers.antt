-- For the private readers alone: what they promise each other. No public contract cites it.
use Rattle.std.specs.Prelude.{Option, Some, None, List, ◌≡◌, true, false, ℕ, ◌+◌, ◌<◌, ◌≤◌, length, drop}
use Rattle.expression.specs.declared.Sign.{Sign}
use Rattle.tokens.specs.Tokens.{no, yes, starts, ranged, signed}

-- the byte c stands at `at`, and a is the place behind it
pub record Past (c : ℕ) (text : List ℕ) (at a : ℕ) : Type 0 where
  pub here : starts c (drop at text) ≡ true
  pub inside : at < length text
  pub next : a ≡ at + 1

abbrev pub PastAs : ℕ → List ℕ → ℕ → Option ℕ → Type 0
PastAs c text at (Some a) = Past c text at a
PastAs c text at None = starts c (drop at text) ≡ false

-- the byte at `at` is the k-th of the `count` bytes from `first` on
pub record Offset-at (first count : ℕ) (text : List ℕ) (at k : ℕ) : Type 0 where
  pub inside : at < length text
  pub small : k < count
  pub read : ranged first count (drop at text) ≡ yes k (drop (at + 1) text)

abbrev pub OffsetAs : ℕ → ℕ → List ℕ → ℕ → Option ℕ → Type 0
OffsetAs first count text at (Some k) = Offset-at first count text at k
OffsetAs first count text at None = ranged first count (drop at text) ≡ no

-- the sign s is read at `at`, and its letter at a
pub record Signed-at (text : List ℕ) (at a : ℕ) (s : Sign) : Type 0 where
  pub ahead : at ≤ a
  pub read : signed (drop at text) ≡ yes s (drop a text)
