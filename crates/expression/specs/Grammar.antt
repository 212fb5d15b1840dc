-- Document 01's grammar: `Form l text e` says that the text is of the level l, and that it is the expression e.
-- Bytes: 33 `!`, 38 `&`, 40 `(`, 41 `)`, 42 `*`, 43 `+`, 44 `,`, 45 `-`, 46 `.`, 48 `0`, 60 `<`, 95 `_`, 97 `a`, 123 `{`, 124 `|`, 125 `}`, 126 `~`.
use Rattle.std.specs.Prelude.{Some, None, ℕ, ◌+◌, ◌*◌, ◌<◌, List, [], ◌∷◌, ◌++◌}
use Rattle.expression.specs.declared.Range.{Range}
use Rattle.expression.specs.declared.Join.{Join}
use Rattle.expression.specs.declared.End.{End}
use Rattle.expression.specs.declared.End.TheVariants.{Closed, Open}
use Rattle.expression.specs.Expression.{Expression, epsilon, High, Low, Rise, Fall, literal, Union, Intersection, Concatenation, join, Star, Band, Absence, unary}

-- "decimal, without a leading zero unless 0 itself": a digit goes after a number that is not 0
pub data Number : List ℕ → ℕ → Type 0 where
  digit : {d : ℕ} → d < 10 → Number ((48 + d) ∷ []) d
  digit_after : {s : List ℕ} {n d : ℕ} → Number s n → 0 < n → d < 10 → Number (s ++ ((48 + d) ∷ [])) (n * 10 + d)

-- "A `<` before lo or hi makes that end not reached"
pub data Bound : List ℕ → End → Type 0 where
  reached : {s : List ℕ} {n : ℕ} → Number s n → Bound s (Closed n)
  not_reached : {s : List ℕ} {n : ℕ} → Number s n → Bound (60 ∷ s) (Open n)

-- what stands between the braces; "hi may be missing, meaning no upper limit"
pub data Limits : List ℕ → Range → Type 0 where
  from : {s : List ℕ} {lo : End} → Bound s lo → Limits (s ++ (44 ∷ [])) (record { lo = lo; hi = None })
  between : {s u : List ℕ} {lo hi : End} → Bound s lo → Bound u hi → Limits (s ++ (44 ∷ u)) (record { lo = lo; hi = Some hi })

-- the byte between the operands of a join
abbrev pub symbol : Join → ℕ
symbol Union = 124
symbol Intersection = 38
symbol Concatenation = 46

pub data Level : Type 0 where
  alternative : Level
  conjunction : Level
  sequence : Level
  factor : Level
  repeat : Level
  primary : Level

-- A whole drill is an alternative. Joins group to the left, and `*` and `{lo,hi}` are applied left to right, since the left part is of the same level.
pub data Form : Level → List ℕ → Expression → Type 0 where
  -- "An alternative is conjunctions joined by `|`."
  conjunction_alone : {s : List ℕ} {e : Expression} → Form conjunction s e → Form alternative s e
  bar : {s u : List ℕ} {e f : Expression} → Form alternative s e → Form conjunction u f → Form alternative (s ++ (124 ∷ u)) (join Union e f)
  -- "A conjunction is sequences joined by `&`."
  sequence_alone : {s : List ℕ} {e : Expression} → Form sequence s e → Form conjunction s e
  ampersand : {s u : List ℕ} {e f : Expression} → Form conjunction s e → Form sequence u f → Form conjunction (s ++ (38 ∷ u)) (join Intersection e f)
  -- "A sequence is repeats joined by `.`.", each of them a factor: with or without a `~` before it
  factor_alone : {s : List ℕ} {e : Expression} → Form factor s e → Form sequence s e
  dot : {s u : List ℕ} {e f : Expression} → Form sequence s e → Form factor u f → Form sequence (s ++ (46 ∷ u)) (join Concatenation e f)
  -- CR 7: "`~` before a repeat"; "`~a*` is the absence of `a*`"
  repeat_alone : {s : List ℕ} {e : Expression} → Form repeat s e → Form factor s e
  tilde : {s : List ℕ} {e : Expression} → Form repeat s e → Form factor (126 ∷ s) (unary Absence e)
  -- "A repeat is a primary followed by any number of `*` and `{lo,hi}`, applied left to right."
  primary_alone : {s : List ℕ} {e : Expression} → Form primary s e → Form repeat s e
  asterisk : {s : List ℕ} {e : Expression} → Form repeat s e → Form repeat (s ++ (42 ∷ [])) (unary Star e)
  braces : {s u : List ℕ} {e : Expression} {r : Range} → Form repeat s e → Limits u r → Form repeat (s ++ (123 ∷ (u ++ (125 ∷ [])))) (unary (Band r) e)
  -- "A primary is `_`, a letter `a` to `p`, `!` and a letter, or a whole alternative in round brackets."
  underline : Form primary (95 ∷ []) epsilon
  letter : {k : ℕ} → k < 16 → Form primary ((97 + k) ∷ []) (literal High k)
  exclamation : {k : ℕ} → k < 16 → Form primary (33 ∷ (97 + k) ∷ []) (literal Low k)
  -- "`+a` .. `-a` the opposite. Both are primaries"
  plus : {k : ℕ} → k < 16 → Form primary (43 ∷ (97 + k) ∷ []) (literal Rise k)
  minus : {k : ℕ} → k < 16 → Form primary (45 ∷ (97 + k) ∷ []) (literal Fall k)
  brackets : {s : List ℕ} {e : Expression} → Form alternative s e → Form primary (40 ∷ (s ++ (41 ∷ []))) e
