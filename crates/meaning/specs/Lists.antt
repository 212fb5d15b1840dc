-- The list of an expression and its rounds: "The list of an operator is built from the finished lists of its operands, the left one finished
-- before the right one is begun". Of ticks from..to and any levels.
use Rattle.std.specs.Prelude.{◌≡◌, List, [], ◌∷◌, ◌++◌, map, ℕ, ◌+◌, ◌-◌, Option, Some, None}
use Rattle.zone.specs.declared.Zone.{Zone}
use Rattle.limit.specs.declared.Limit.{Limit}
use Rattle.limit.specs.Limit.{most}
use Rattle.zone.specs.Zone.{run, diagonal, band as bandOf}
use Rattle.list.specs.Insert.{Built, insert_each}
pub use Rattle.purse.specs.Value.{Value, value, overflow, begun, spent, with_rounds, ended}
use Rattle.operators.specs.Operators.{union as unite, meets, compositions, banded}
use Rattle.absence.specs.Absence.{absent}
use Rattle.star.specs.Star.{Star as Stars}
use Rattle.runs.specs.declared.Level.{Level}
use Rattle.runs.specs.declared.Level.TheVariants.{High, Low}
use Rattle.runs.specs.declared.Run.{Run}
use Rattle.runs.specs.Runs.{Runs}
use Rattle.runs.specs.Events.{Events}
use Rattle.expression.specs.declared.Range.{Range}
use Rattle.expression.specs.declared.End.{End}
use Rattle.expression.specs.declared.Sign.TheVariants as sign
use Rattle.expression.specs.declared.Sign.TheVariants.{Rise, Fall}
use Rattle.expression.specs.declared.Join.{Join}
use Rattle.expression.specs.declared.Join.TheVariants.{Union, Intersection, Concatenation}
use Rattle.expression.specs.declared.Unary.{Unary}
use Rattle.expression.specs.declared.Unary.TheVariants.{Star, Band, Absence}
use Rattle.expression.specs.Expression.{Expression, epsilon, literal, join, unary}
use Rattle.meaning.specs.Satisfies.{upper_limit, lower_limit}

-- an operand, and what comes of its finished list, after the operand's rounds; where the operand overflows, so does the whole
pub data Then (operand : Value → Type 0) (next : List Zone → Value → Type 0) : Value → Type 0 where
  goes : {A : List Zone} {r : ℕ} {w v : Value} → operand (value A r) → next A w → v ≡ with_rounds r w → Then operand next v
  stops : {b f : ℕ} → operand (overflow b f) → Then operand next (overflow b f)

-- two operands, "the left one finished before the right one is begun", and what is built of both lists
abbrev pub Both : (List Zone → List Zone → Built) → (Value → Type 0) → (Value → Type 0) → Value → Type 0
Both build left right = Then left (λ A. Then right (λ B v. v ≡ ended (build A B)))

-- "maximal runs, put in rising time, run s to e giving s ≤ start, end ≤ e, start < end"
abbrev pub run_zones : List Run → List (Option Zone)
run_zones = map (λ (r : Run). Some (run r.start r.end))

pub record Letter (P : ℕ → Type 0) (from to : ℕ) (v : Value) : Type 0 where
  pub runs : List Run
  pub maximal : Runs P from to runs
  pub built : v ≡ ended (insert_each (run_zones runs) [])

-- start = end = s
abbrev pub moment_zone : ℕ → Zone
moment_zone s = diagonal s s

-- "Their zones are put in rising s"
abbrev pub moment_zones : List ℕ → List (Option Zone)
moment_zones = map (λ (s : ℕ). Some (moment_zone s))

pub record Moments (P Q : ℕ → Type 0) (from to : ℕ) (v : Value) : Type 0 where
  pub at : List ℕ
  pub events : Events P Q from to at
  pub built : v ≡ ended (insert_each (moment_zones at) [])

-- the limit of a band on end − start; a missing hi is to − from, reached, which no stretch exceeds
abbrev pub longest : ℕ → ℕ → Option End → Limit
longest from to None = most (to - from)
longest from to (Some hi) = upper_limit hi

-- "The band's meet now carries a reached or not reached limit on either end"
abbrev pub range_band : ℕ → ℕ → Range → Option Zone
range_band from to r = bandOf from to (longest from to r.hi) (lower_limit r.lo)

-- "`|`: put the left zones, then the right ones, into an empty list"; "`&` and `.`: for each left zone, for each right zone, put the meet (for
-- `.` the composition)"
abbrev pub join_list : Join → List Zone → List Zone → Built
join_list Union = unite
join_list Intersection = meets
join_list Concatenation = compositions

-- "`*`: begin with the inner list. A round .. Then the diagonal is put"; "`{lo,hi}`: put each zone's meet with the band"; `~`: "Begin with one
-- zone, all stretches. For each zone of the operand in order, each listed zone is replaced by its parts"
abbrev pub applied : ℕ → ℕ → Unary → List Zone → Value → Type 0
applied from to Star A v = Stars A (diagonal from to) v
applied from to (Band range) A v = v ≡ ended (banded (range_band from to range) A)
applied from to Absence A v = v ≡ ended (absent from to A)

-- the expression comes to the value
abbrev pub Evaluates : (Shows : ℕ → Level → ℕ → Type 0) (from to : ℕ) → Expression → Value → Type 0
-- "`_`: the diagonal, start = end"
Evaluates Shows from to epsilon v = v ≡ ended (insert_each (Some (diagonal from to) ∷ []) [])
-- "a letter or `!`"
Evaluates Shows from to (literal sign.High k) v = Letter (Shows k High) from to v
Evaluates Shows from to (literal sign.Low k) v = Letter (Shows k Low) from to v
-- `+` and `-`
Evaluates Shows from to (literal Rise k) v = Moments (Shows k Low) (Shows k High) from to v
Evaluates Shows from to (literal Fall k) v = Moments (Shows k High) (Shows k Low) from to v
-- an operator with two operands, and with one
Evaluates Shows from to (join j e f) v = Both (join_list j) (Evaluates Shows from to e) (Evaluates Shows from to f) v
Evaluates Shows from to (unary u e) v = Then (Evaluates Shows from to e) (applied from to u) v

-- the parts repeated, one for each `*` written in an expression
unfoldable pub repeated : Expression → List Expression
repeated epsilon = []
repeated (literal s k) = []
repeated (join j e f) = repeated e ++ repeated f
repeated (unary Star e) = e ∷ repeated e
repeated (unary (Band r) e) = repeated e
repeated (unary Absence e) = repeated e

-- the `*` of f has k rounds: "The rounds of a `*` are all that this rule makes from its inner list, the last included"
pub record RoundsOf (Shows : ℕ → Level → ℕ → Type 0) (from to : ℕ) (f : Expression) (k : ℕ) : Type 0 where
  pub inner : List Zone
  pub before : ℕ
  pub list : Evaluates Shows from to f (value inner before)
  pub outer : List Zone
  pub star : Stars inner (diagonal from to) (value outer k)

-- the sum of a number of each: "the sum of these rounds over all `*` of the drill, each one written counted by itself, and 0 where there is none"
pub data Sum (P : Expression → ℕ → Type 0) : List Expression → ℕ → Type 0 where
  none : Sum P [] 0
  also : {f : Expression} {fs : List Expression} {k n : ℕ} → P f k → Sum P fs n → Sum P (f ∷ fs) (k + n)
