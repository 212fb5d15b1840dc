-- What the text of a drill begins with, as a function of the text: a byte, a number, a range, an operator after its operand, a
-- letter with its sign; and what is said of a place of the text where one of them was read. How they make a drill is found in `descent`.
use Rattle.std.specs.Prelude.{Option, Some, None, Bool, true, false, List, [], ◌∷◌, ◌≡◌, ℕ, ◌+◌, ◌-◌, ◌*◌, ◌<◌, ◌≤◌, min, eqb, ltb, length, drop}
use Rattle.expression.specs.declared.Range.{Range}
use Rattle.expression.specs.declared.End.{End}
use Rattle.expression.specs.declared.End.TheVariants.{Closed, Open}
use Rattle.expression.specs.declared.Sign.TheVariants.{High, Low, Rise, Fall}
use Rattle.expression.specs.declared.Unary.{Unary}
use Rattle.expression.specs.declared.Unary.TheVariants.{Star, Band, Absence}
use Rattle.expression.specs.Expression.{Expression, literal}
use Rattle.expression.specs.declared.Sign.{Sign}

-- nothing, or a value and the text after it
pub data Got (A : Type 0) : Type 0 where
  no : Got A
  yes : A → List ℕ → Got A

-- by a test; the case that is not taken is not computed
unfoldable pub branch : {A : Type 0} → Bool → (Unit {0} → Got A) → (Unit {0} → Got A) → Got A
branch true a b = a tt
branch false a b = b tt

unfoldable pub bind : {A B : Type 0} → Got A → (A → List ℕ → Got B) → Got B
bind no k = no
bind (yes x r) k = k x r

-- the text begins with the byte c
unfoldable pub starts : ℕ → List ℕ → Bool
starts c [] = false
starts c (b ∷ s) = eqb b c

-- the text without its first byte
unfoldable pub rest : List ℕ → List ℕ
rest [] = []
rest (b ∷ s) = s

-- the byte c, and then x
unfoldable pub expect : {A : Type 0} → ℕ → A → List ℕ → Got A
expect c x s = branch (starts c s) (λ _. yes x (rest s)) (λ _. no)

-- one of the `count` bytes from `first` on, as its place among them
unfoldable pub ranged : ℕ → ℕ → List ℕ → Got ℕ
ranged first count [] = no
ranged first count (c ∷ s) = branch (ltb c first) (λ _. no) (λ _. branch (ltb (c - first) count) (λ _. yes (c - first) s) (λ _. no))

-- the rest of a number, n so far
unfoldable pub digits : ℕ → List ℕ → Got ℕ
digits n [] = yes n []
digits n (c ∷ s) =
    branch (ltb 0 n) (λ _. branch (ltb c 48) (λ _. yes n (c ∷ s)) (λ _. branch (ltb (c - 48) 10) (λ _. digits (n * 10 + (c - 48)) s) (λ _. yes n (c ∷ s))))
    (λ _. yes n (c ∷ s))

unfoldable pub numeral : List ℕ → Got ℕ
numeral s = bind (ranged 48 10 s) digits

-- an end of a range: a number, or `<` and a number
unfoldable pub numbered : (ℕ → End) → List ℕ → Got End
numbered kind s = bind (numeral s) (λ n r. yes (kind n) r)

unfoldable pub bound : List ℕ → Got End
bound s = branch (starts 60 s) (λ _. numbered Open (rest s)) (λ _. numbered Closed s)

-- the upper end of a range, with the closing brace
unfoldable pub upper_end : List ℕ → Got (Option End)
upper_end s = branch (starts 125 s) (λ _. yes None (rest s)) (λ _. bind (bound s) (λ e r. expect 125 (Some e) r))

-- what stands after an opening brace, with the closing one
unfoldable pub limits : List ℕ → Got Range
limits s = bind (bound s) (λ e r. bind (expect 44 e r) (λ lo q. bind (upper_end q) (λ hi p. yes (record { lo = lo; hi = hi }) p)))

-- an operator after its operand: `*`, or a range in braces
abbrev pub postfix : List ℕ → Got Unary
postfix s = branch (starts 42 s) (λ _. yes Star (rest s)) (λ _. branch (starts 123 s) (λ _. bind (limits (rest s)) (λ x r. yes (Band x) r)) (λ _. no))

-- the sign before a letter: `!`, `+` or `-`; without one the letter asks for high
unfoldable pub signed : List ℕ → Got Sign
signed s =
    branch (starts 33 s) (λ _. yes Low (rest s))
    (λ _. branch (starts 43 s) (λ _. yes Rise (rest s)) (λ _. branch (starts 45 s) (λ _. yes Fall (rest s)) (λ _. yes High s)))

-- a letter with its sign
abbrev pub lettered : List ℕ → Got Expression
lettered s = bind (signed s) (λ g t. bind (ranged 97 16 t) (λ k r. yes (literal g k) r))

-- a number as it is read: all above 1,000,000 alike
unfoldable pub cap : ℕ → ℕ
cap n = min n 1000001

-- and so in an end, an upper end, a range and an operator, as they are stored
abbrev pub capped_end : End → End
capped_end (Closed n) = Closed (cap n)
capped_end (Open n) = Open (cap n)

abbrev pub capped_upper : Option End → Option End
capped_upper None = None
capped_upper (Some e) = Some (capped_end e)

abbrev pub capped_range : Range → Range
capped_range r = record { lo = capped_end r.lo; hi = capped_upper r.hi }

abbrev pub capped_unary : Unary → Unary
capped_unary Star = Star
capped_unary (Band r) = Band (capped_range r)
capped_unary Absence = Absence

-- a value x that was read from `at` up to a, of which v is kept
pub record Got-at {A : Type 0} (reads : List ℕ → Got A) (keeps : A → A) (text : List ℕ) (at a : ℕ) (v : A) : Type 0 where
  pub ahead : at < a
  pub inside : a ≤ length text
  pub x : A
  pub is : v ≡ keeps x
  pub read : reads (drop at text) ≡ yes x (drop a text)

-- what a reader answers: where what it read ends and what is kept of it, or that there is nothing
abbrev pub GotAs : {A : Type 0} → (List ℕ → Got A) → (A → A) → List ℕ → ℕ → Option (ℕ × A) → Type 0
GotAs reads keeps text at (Some got) = Got-at reads keeps text at got.0 got.1
GotAs reads keeps text at None = reads (drop at text) ≡ no

-- an operator after its operand: where it ends and which it is, or that there is none
abbrev pub PostfixAs : List ℕ → ℕ → Option (ℕ × Unary) → Type 0
PostfixAs text at r = GotAs postfix capped_unary text at r

-- a letter with its sign, from `at` up to a
pub record Letter-at (text : List ℕ) (at a : ℕ) (s : Sign) (k : ℕ) : Type 0 where
  pub ahead : at < a
  pub inside : a ≤ length text
  pub small : k < 16
  pub read : lettered (drop at text) ≡ yes (literal s k) (drop a text)

abbrev pub LetterAs : List ℕ → ℕ → Option (ℕ × Sign × ℕ) → Type 0
LetterAs text at (Some got) = Letter-at text at got.0 got.1 got.2
LetterAs text at None = lettered (drop at text) ≡ no

-- whether the byte c stands at `at`
pub record Seen (c : ℕ) (text : List ℕ) (at : ℕ) (r : Bool) : Type 0 where
  pub is : starts c (drop at text) ≡ r
  pub inside : r ≡ true → at < length text
