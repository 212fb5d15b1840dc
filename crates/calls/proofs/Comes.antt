-- Recording and drill decide the value that a drill comes to.
use mathlib.Core.Path.{◌≡◌, subst}
use mathlib.Core.List.{List}
use Prim.Native.Nat.{ℕ}
use Rattle.recording.specs.Reading.{ticks}
use Rattle.runs.specs.Levels.{Shows}
use Rattle.expression.specs.Expression.{Expression}
use Rattle.descent.proofs.Complete.{unique}
use Rattle.meaning.specs.Lists.{Value, Evaluates}
use Rattle.meaning.proofs.Evaluation.{evaluates_unique}
use Rattle.calls.specs.Outcome.{Comes, Finishes}
use Rattle.outcome.proofs.Listing.{listing}

-- There is one value ..
pub comes_unique : {bytes text : List ℕ} {v w : Value} → Comes bytes text v → Comes bytes text w → v ≡ w
comes_unique {bytes} {text} {v} {w} p q =
    let e : p.drill ≡ q.drill = unique p.form q.form in
    evaluates_unique (Shows bytes) 0 (ticks bytes) q.drill v w (subst (λ (d : Expression). Evaluates (Shows bytes) 0 (ticks bytes) d v) e p.evaluates) q.evaluates

-- .. and so one number of zones and of rounds.
pub finishes_once : {bytes text : List ℕ} (z r y s : ℕ) → Finishes (Comes bytes text) z r → Finishes (Comes bytes text) y s → listing z r ≡ listing y s
finishes_once z r y s p q = let v = comes_unique p.means q.means in let e = p.count in let f = q.count in cc
