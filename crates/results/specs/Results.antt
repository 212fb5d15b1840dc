-- The results of drills that are run in order over one recording, and their text.
use Rattle.std.specs.Prelude.{◌≡◌, ℕ, suc, ◌+◌, ◌*◌, ◌≤◌, ℤ, length, Option, Some}
use mathlib.Core.List.{List, [], ◌∷◌, ◌++◌, Memᴰ}
use Rattle.text.specs.Buffer.{Appends}
use Rattle.text.specs.Decimal.{decimal}
use Rattle.outcome.specs.Outcome.{Outcome}
use Rattle.outcome.specs.Outcome.{returned, front_of}
use Rattle.calls.specs.Within.{WithinAs}
use Rattle.sheet.specs.Sheet.{sheet}
use Rattle.lines.specs.Lines.{terminated, Unbroken}
use Rattle.lines.specs.Taken.{Stored}

-- "Each drill of a sheet now has 100,000 rounds of its own"
abbrev pub purse : ℕ
purse = 100_000

-- a drill's result: the sheet of its call, which is told so many rounds; those left after it are no other drill's
pub record ResultAs (bytes text : List ℕ) (told : ℕ) (answer work : List ℤ) (result : List ℕ) (answer' work' : List ℤ) : Type 0 where
  pub outcome : Outcome
  pub left : ℕ
  pub call : WithinAs bytes text told answer work outcome left answer' work'
  pub prints : result ≡ sheet (returned outcome) (front_of answer' (returned outcome).zones)

-- "run in order over one recording": each drill is told 100,000 rounds, "counted from its first round", and finds both buffers as the one before it left
-- them; "a refused drill prints its refusal and the next is run"
pub data Results (bytes : List ℕ) : (answer work : List ℤ) (drills results : List (List ℕ)) (answer' work' : List ℤ) → Type 0 where
  none : {answer work : List ℤ} → Results bytes answer work [] [] answer work
  next : {answer work a w answer' work' : List ℤ} {d r : List ℕ} {ds rs : List (List ℕ)}
      → ResultAs bytes d purse answer work r a w → Results bytes a w ds rs answer' work' → Results bytes answer work (d ∷ ds) (r ∷ rs) answer' work'

-- a line with a number
abbrev pub number_line : ℕ → List ℕ
number_line k = terminated (decimal k)

-- "prints before each drill's result a line with only its number": the results from number k on
unfoldable pub with_numbers : (k : ℕ) (results : List (List ℕ)) → List ℕ
with_numbers k [] = []
with_numbers k (r ∷ rs) = number_line k ++ (r ++ with_numbers (suc k) rs)

-- a drill's result is at most a line of two bytes and a sheet of 12,288
abbrev pub longest_result : ℕ
longest_result = 2 + 12_288

-- ---- in a buffer

-- the results of drills with their numbers, "from 1", written from the front of a buffer
pub record ResultsPrinted (bytes : List ℕ) (drills : List (List ℕ)) (answer work answer' work' : List ℤ) (out out' : List ℕ) (w' : Option ℕ) : Type 0 where
  pub each : List (List ℕ)
  pub results : Results bytes answer work drills each answer' work'
  pub appends : Appends (with_numbers 1 each) out (Some 0) out' w'
  pub short : length (with_numbers 1 each) ≤ length drills * longest_result

-- those of all n drills that the store holds
abbrev pub AllPrinted : (bytes store : List ℕ) (n : ℕ) (answer work answer' work' : List ℤ) (out out' : List ℕ) → Option ℕ → Type 0
AllPrinted bytes store n answer work answer' work' out out' w =
    (drills : List (List ℕ)) → length drills ≡ n → Stored store drills → ((d : List ℕ) → Memᴰ d drills → Unbroken d)
    → ResultsPrinted bytes drills answer work answer' work' out out' w
