-- The ends of some stretches as words.
use Rattle.std.specs.Prelude.{List, [], ◌∷◌, ℕ, ◌≤◌, ℤ, pos, Option, Some, None}
use Rattle.limit.specs.declared.Limit.{Limit}
use Rattle.limit.specs.Limit.{most, least, less, more, most_ticks, code}
use Rattle.extremes.specs.declared.Extreme.{Extreme}
use Rattle.extremes.specs.declared.Extreme.TheVariants.{Reached, Unreached}
use Rattle.extremes.specs.declared.Ends.{Ends}
use Rattle.extremes.specs.Ends.{tick_of}

abbrev pub end_words : ℕ
end_words = 3

-- the latest end as a limit on the end, and the earliest as one on the negated end, since "A lower limit is kept as an upper limit on the negated
-- quantity"
abbrev pub latest_limit : Extreme → Limit
latest_limit (Reached v) = most v
latest_limit (Unreached v) = less v

abbrev pub earliest_limit : Extreme → Limit
earliest_limit (Reached v) = least v
earliest_limit (Unreached v) = more v

-- whether there are any, the latest, the earliest
abbrev pub words_of : Option Ends → List ℤ
words_of None = pos 0 ∷ pos 0 ∷ pos 0 ∷ []
words_of (Some e) = pos 1 ∷ code (latest_limit e.latest) ∷ code (earliest_limit e.earliest) ∷ []

-- the ticks are few enough for their words
abbrev pub Few : Option Ends → Type 0
Few None = Unit {0}
Few (Some e) = (tick_of e.earliest ≤ most_ticks) × (tick_of e.latest ≤ most_ticks)
