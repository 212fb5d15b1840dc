-- Document 01, "Turned back": the causes 4 to 8, which are those of a drill, and which of them is given.
use Rattle.std.specs.Prelude.{Option, Some, None, ◌≡◌, ◌⊎◌, ℕ, ◌<◌, ◌≤◌, length}
use mathlib.Core.List.{List, Memᴰ}
use Rattle.expression.specs.declared.Range.{Range}
use Rattle.expression.specs.declared.End.{End}
use Rattle.expression.specs.declared.End.TheVariants.{Closed, Open}
use Rattle.expression.specs.Expression.{Expression, depth, letters, ranges}
use Rattle.expression.specs.Grammar.{Form, alternative}

-- the number of an end
abbrev pub figure : End → ℕ
figure (Closed n) = n
figure (Open n) = n

-- it has a `<`
abbrev pub Opened : End → Type 0
Opened (Closed n) = ⊥
Opened (Open n) = Unit {0}

-- "hi above 1,000,000, or lo > hi", where there is a hi; and "Equal lo and hi with a `<` on either"
abbrev pub WrongUpper : End → Option End → Type 0
WrongUpper lo None = ⊥
WrongUpper lo (Some hi) = (1000000 < figure hi) ⊎ ((figure hi < figure lo) ⊎ ((figure lo ≡ figure hi) × (Opened lo ⊎ Opened hi)))

-- "lo or hi above 1,000,000, or lo > hi", or equal with a `<`
abbrev pub Wrong : Range → Type 0
Wrong r = (1000000 < figure r.lo) ⊎ WrongUpper r.lo r.hi

-- the cause of each number holds, of a text and the channel count of a recording
pub data DrillCause (text : List ℕ) (channels : ℕ) : ℕ → Type 0 where
  -- "drill of length 0 or over 255"
  wrong_length : (length text ≡ 0) ⊎ (255 < length text) → DrillCause text channels 4
  -- "drill not of the form above"
  no_form : ((e : Expression) → Form alternative text e → ⊥) → DrillCause text channels 5
  -- "a letter at or beyond the channel count"
  wrong_letter : {e : Expression} {k : ℕ} → Form alternative text e → Memᴰ k (letters e) → channels ≤ k → DrillCause text channels 6
  -- "lo or hi above 1,000,000, or lo > hi", and "Equal lo and hi with a `<` on either"
  wrong_range : {e : Expression} {r : Range} → Form alternative text e → Memᴰ r (ranges e) → Wrong r → DrillCause text channels 7
  -- "depth above 16"
  too_deep : {e : Expression} → Form alternative text e → 16 < depth e → DrillCause text channels 8

-- "Each is given when its cause holds and no earlier one does": n is the number of the first cause
pub record DrillRefused (text : List ℕ) (channels n : ℕ) : Type 0 where
  pub holds : DrillCause text channels n
  pub first : (m : ℕ) → m < n → DrillCause text channels m → ⊥

-- no cause holds, and the text is the expression e
pub record Accepted (text : List ℕ) (channels : ℕ) (e : Expression) : Type 0 where
  pub form : Form alternative text e
  pub none : (n : ℕ) → DrillCause text channels n → ⊥
