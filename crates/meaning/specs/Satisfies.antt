-- "What a stretch satisfies": Definition 3 of document 004, of events CR 3 and of absence CR 7, over any levels and all times. `Shows k level n` says that
-- channel k has the level in tick n.
use Rattle.std.specs.Prelude.{Option, Some, None, ◌⊎◌, ℕ, suc}
use Rattle.limit.specs.Time.{Time, at_tick, ◌≤ᵀ◌, ◌<ᵀ◌, ◌≈ᵀ◌}
use Rattle.limit.specs.declared.Limit.{Limit}
use Rattle.limit.specs.Limit.{Within, most, least, less, more}
use Rattle.star.specs.Pieces.{Pieces}
use Rattle.runs.specs.declared.Level.{Level}
use Rattle.runs.specs.declared.Level.TheVariants.{High, Low}
use Rattle.runs.specs.Events.{Event}
use Rattle.expression.specs.declared.Range.{Range}
use Rattle.expression.specs.declared.End.{End}
use Rattle.expression.specs.declared.End.TheVariants.{Closed, Open}
use Rattle.expression.specs.declared.Sign.TheVariants as sign
use Rattle.expression.specs.declared.Sign.TheVariants.{Rise, Fall}
use Rattle.expression.specs.declared.Join.TheVariants.{Union, Intersection, Concatenation}
use Rattle.expression.specs.declared.Unary.TheVariants.{Star, Band, Absence}
use Rattle.expression.specs.Expression.{Expression, epsilon, literal, join, unary}

-- "start < end, and the channel is high in each tick that the open stretch overlaps": of what is said of a tick
pub record Throughout (P : ℕ → Type 0) (x y : Time) : Type 0 where
  pub some : x <ᵀ y
  pub each : (n : ℕ) → x <ᵀ at_tick (suc n) → at_tick n <ᵀ y → P n

-- "the zero-length stretch at a whole tick s .. where a is low in tick s − 1 and high in tick s": of what is said of the tick before s and of
-- that after it. Times are equal as fractions, so that 4/2 is tick 2
pub record Moment (P Q : ℕ → Type 0) (x y : Time) : Type 0 where
  pub at : ℕ
  pub start : x ≈ᵀ at_tick at
  pub end : y ≈ᵀ at_tick at
  pub event : Event P Q at

-- The limits that an end of a range sets, as hi on end − start, and as lo on start − end: "A `<` before lo or hi makes that end not reached".
abbrev pub upper_limit : End → Limit
upper_limit (Closed n) = most n
upper_limit (Open n) = less n

abbrev pub lower_limit : End → Limit
lower_limit (Closed n) = least n
lower_limit (Open n) = more n

-- "end − start ≤ hi", or < hi; "hi may be missing, meaning no upper limit"
abbrev pub NoLonger : Option End → Time → Time → Type 0
NoLonger None x y = Unit {0}
NoLonger (Some hi) x y = Within (upper_limit hi) y x

-- "lo ≤ end − start ≤ hi", with < for an end that has one
abbrev pub Lasts : Range → Time → Time → Type 0
Lasts r x y = Within (lower_limit r.lo) x y × NoLonger r.hi x y

-- the stretch from x to y satisfies the expression
abbrev pub Satisfies : (Shows : ℕ → Level → ℕ → Type 0) → Expression → Time → Time → Type 0
-- "`_`: start = end"
Satisfies Shows epsilon x y = x ≈ᵀ y
-- "a letter: start < end, and the channel is high in each tick that the open stretch overlaps; `!` the same with low"
Satisfies Shows (literal sign.High k) x y = Throughout (Shows k High) x y
Satisfies Shows (literal sign.Low k) x y = Throughout (Shows k Low) x y
-- "`+a` fits only the zero-length stretch at a whole tick s .. where a is low in tick s − 1 and high in tick s; `-a` the opposite"
Satisfies Shows (literal Rise k) x y = Moment (Shows k Low) (Shows k High) x y
Satisfies Shows (literal Fall k) x y = Moment (Shows k High) (Shows k Low) x y
-- "`|`, `&`: either, both"
Satisfies Shows (join Union e f) x y = Satisfies Shows e x y ⊎ Satisfies Shows f x y
Satisfies Shows (join Intersection e f) x y = Satisfies Shows e x y × Satisfies Shows f x y
-- "some cut, any fraction between start and end, of any N, where the left part fits the first and the right part the second"
Satisfies Shows (join Concatenation e f) x y = (t : Time) × (x ≤ᵀ t) × (t ≤ᵀ y) × Satisfies Shows e x t × Satisfies Shows f t y
-- "some number of consecutive pieces that each fit the operand, zero (start = end) included"
Satisfies Shows (unary Star e) x y = (n : ℕ) × Pieces (λ s t. Satisfies Shows e s t) n x y
-- "also lo ≤ end − start ≤ hi", or < where it is written
Satisfies Shows (unary (Band r) e) x y = Satisfies Shows e x y × Lasts r x y
-- "fits each stretch .. that the repeat does not fit". "inside the recording" is said by `Fits`
Satisfies Shows (unary Absence e) x y = (x ≤ᵀ y) × ¬ Satisfies Shows e x y
