-- Where a change holds from.
use Rattle.std.specs.Prelude.{cond, List, ℕ, leb, eqb}
use Rattle.recording.specs.Reading.{tick, ticks, changes, time}

-- the tick from which change j holds; 0 is the time before the first change, and after the last change comes the end
unfoldable pub begins : List ℕ → ℕ → ℕ
begins bytes j = cond (eqb j 0) 0 (cond (leb j (changes bytes)) (tick (time bytes j)) (ticks bytes))
