-- The theorems on which stretches fit a drill, of every recording and every drill, also of one that is refused: it is decided, and an absent
-- drill and the drill itself fit every stretch between them. x and y are times num / den of any denominators.
use mathlib.Core.Logic.{◌↔◌, ◌⊎◌, inl, inr, ⊎_elim}
use mathlib.Core.List.{List}
use Prim.Native.Nat.{ℕ, ◌≤◌}
use native.Mathlib.Omega.{arith}
use Rattle.limit.specs.Time.{Time}
use Rattle.zone.specs.Zone.{Stretch}
use Rattle.list.specs.Members.{Lies}
use Rattle.absence.proofs.Theorems.{lies?}
use Rattle.recording.specs.Reading.{ticks}
use Rattle.runs.specs.declared.Level.{Level}
use Rattle.runs.specs.Levels.{Shows}
use Rattle.expression.specs.declared.Unary.TheVariants.{Absence}
use Rattle.expression.specs.Expression.{Expression, unary}
use Rattle.meaning.specs.Satisfies.{Satisfies}
use Rattle.meaning.specs.Fits.{FitsOn, Fits}
use Rattle.meaning.proofs.Evaluation.{FiniteVariability}
use Rattle.meaning.proofs.Members.{lies_inside}
use Rattle.meaning.proofs.Finite.{recording_finite}
use Rattle.decision.specs.Drawn.{Drawn}
use Rattle.decision.proofs.Drawn as zones

-- of a finite union of zones it is decided which stretches it holds
pub drawn_decides : {from to : ℕ} {S : Time → Time → Type 0} → Drawn from to S → (x y : Time) → Dec (Stretch from to x y × S x y)
drawn_decides {from} {to} {S} d x y = go (lies? d.zones x y)
  where
    go : Dec (Lies d.zones x y) → Dec (Stretch from to x y × S x y)
    go (yes l) = let s = lies_inside d.proper l in yes (s, (d.exact x y s).0 l)
    go (no n) = no (λ h. n ((d.exact x y h.0).1 h.1))

-- ==== 1. Of any levels, on ticks from..to

module _ (Shows : ℕ → Level → ℕ → Type 0) {from to : ℕ} where
  -- "An absent drill and the drill itself .. share none"
  pub absent_apart_on : (e : Expression) (x y : Time) → FitsOn Shows from to e x y → ¬ FitsOn Shows from to (unary Absence e) x y
  absent_apart_on e x y h k = k.1.1 h.1

  module _ (finite : FiniteVariability Shows from to) (order : from ≤ to) where
    -- every drill's stretches are a finite union of zones ..
    pub drawn : (e : Expression) → Drawn from to (λ x y. Satisfies Shows e x y)
    drawn = zones.drawn Shows finite order

    -- .. so it is decided whether a stretch fits ..
    pub fits_on? : (e : Expression) (x y : Time) → Dec (FitsOn Shows from to e x y)
    fits_on? e x y = drawn_decides (drawn e) x y

    -- .. and "an absent drill and the drill itself together fit every stretch"
    pub absent_together_on : (e : Expression) (x y : Time) → Stretch from to x y → FitsOn Shows from to e x y ⊎ FitsOn Shows from to (unary Absence e) x y
    absent_together_on e x y s = go (fits_on? e x y)
      where
        go : Dec (FitsOn Shows from to e x y) → FitsOn Shows from to e x y ⊎ FitsOn Shows from to (unary Absence e) x y
        go (yes h) = inl h
        go (no n) = inr (s, (s.1, λ h. n (s, h)))

    -- so what is absent twice is there
    pub absent_twice_on : (e : Expression) (x y : Time) → FitsOn Shows from to (unary Absence (unary Absence e)) x y ↔ FitsOn Shows from to e x y
    absent_twice_on e x y = (λ h. ⊎_elim (λ k. k) (λ k. absurd (absent_apart_on (unary Absence e) x y k h)) (absent_together_on e x y h.0), λ h. (h.0, (h.0.1, λ k. k.1 h.1)))

-- ==== 2. On a recording

module _ (bytes : List ℕ) (e : Expression) (x y : Time) where
  -- Whether a stretch fits a drill is decided, of any bytes and any expression.
  pub fits? : Dec (Fits bytes e x y)
  fits? = fits_on? (Shows bytes) (recording_finite bytes 0 (ticks bytes)) (omega arith) e x y

  -- "An absent drill and the drill itself together fit every stretch ..
  pub absent_together : Stretch 0 (ticks bytes) x y → Fits bytes e x y ⊎ Fits bytes (unary Absence e) x y
  absent_together = absent_together_on (Shows bytes) (recording_finite bytes 0 (ticks bytes)) (omega arith) e x y

  -- .. and share none"
  pub absent_apart : Fits bytes e x y → ¬ Fits bytes (unary Absence e) x y
  absent_apart = absent_apart_on (Shows bytes) e x y

  -- What is absent twice is there.
  pub absent_twice : Fits bytes (unary Absence (unary Absence e)) x y ↔ Fits bytes e x y
  absent_twice = absent_twice_on (Shows bytes) (recording_finite bytes 0 (ticks bytes)) (omega arith) e x y
