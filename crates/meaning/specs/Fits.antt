-- What fits: a stretch inside the ticks at hand that satisfies the expression. Every theorem that speaks of a drill on a recording speaks of this.
use Rattle.std.specs.Prelude.{List, ℕ}
use Rattle.limit.specs.Time.{Time}
use Rattle.zone.specs.Zone.{Stretch}
use Rattle.recording.specs.Reading.{ticks}
use Rattle.runs.specs.declared.Level.{Level}
use Rattle.runs.specs.Levels.{Shows}
use Rattle.expression.specs.Expression.{Expression}
use Rattle.meaning.specs.Satisfies.{Satisfies}

-- on ticks from..to, of any levels
abbrev pub FitsOn : (Shows : ℕ → Level → ℕ → Type 0) (from to : ℕ) → Expression → Time → Time → Type 0
FitsOn Shows from to e x y = Stretch from to x y × Satisfies Shows e x y

-- on a recording: "A stretch has start ≤ end, both in 0 to d"
abbrev pub Fits : List ℕ → Expression → Time → Time → Type 0
Fits bytes = FitsOn (Shows bytes) 0 (ticks bytes)
