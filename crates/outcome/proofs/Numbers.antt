-- An outcome is known by its number.
use mathlib.Core.Path.{◌≡◌, refl, sym, ap, ◌∙◌}
use mathlib.Core.List.{List, [], ◌∷◌}
use Prim.Native.Nat.{ℕ, ◌-◌, ◌<◌}
use native.Mathlib.Omega.{arith}
use lib.ListN.{get_or}
use Rattle.outcome.specs.Outcome.{Outcome, Ok, Err, Refusal, RecordingLength, RecordingHead, RecordingChange, DrillLength, DrillForm, DrillLetter, DrillRange, DrillDepth, WorkShort, Overflow, AnswerShort, SheetForm, RoundsSpent, number_of, returned}
use Rattle.outcome.proofs.Listing.{listing}

-- the refusals, in the order of their numbers
abbrev numbered : List Refusal
numbered =
    RecordingLength ∷ RecordingHead ∷ RecordingChange ∷ DrillLength ∷ DrillForm ∷ DrillLetter ∷ DrillRange ∷ DrillDepth ∷ WorkShort ∷ Overflow ∷ AnswerShort ∷ SheetForm ∷ RoundsSpent ∷ []

abbrev refusal_at : ℕ → Refusal
refusal_at n = get_or numbered (n - 1) RecordingLength

-- a refusal's number is one of 1 to 13, and it stands at that number ..
record Numbered (r : Refusal) : Type 0 where
  some : 0 < number_of r
  few : number_of r < 14
  place : r ≡ refusal_at (number_of r)

known : (r : Refusal) → Numbered r
known RecordingLength = record { some = omega arith; few = omega arith; place = refl }
known RecordingHead = record { some = omega arith; few = omega arith; place = refl }
known RecordingChange = record { some = omega arith; few = omega arith; place = refl }
known DrillLength = record { some = omega arith; few = omega arith; place = refl }
known DrillForm = record { some = omega arith; few = omega arith; place = refl }
known DrillLetter = record { some = omega arith; few = omega arith; place = refl }
known DrillRange = record { some = omega arith; few = omega arith; place = refl }
known DrillDepth = record { some = omega arith; few = omega arith; place = refl }
known WorkShort = record { some = omega arith; few = omega arith; place = refl }
known Overflow = record { some = omega arith; few = omega arith; place = refl }
known AnswerShort = record { some = omega arith; few = omega arith; place = refl }
known SheetForm = record { some = omega arith; few = omega arith; place = refl }
known RoundsSpent = record { some = omega arith; few = omega arith; place = refl }

pub number_range : (r : Refusal) → (0 < number_of r) × (number_of r < 14)
number_range r = let k = known r in (k.some, k.few)

-- .. so number 0 is a finished list's alone ..
pub zero_finished : (o : Outcome) → (returned o).number ≡ 0 → o ≡ listing (returned o).zones (returned o).rounds
zero_finished (Ok f) e = refl
zero_finished (Err r) e = absurd (omega (arith, (known r).some))

-- .. and each refusal has its own.
pub same_number : (o p : Outcome) → 0 < (returned p).number → (returned o).number ≡ (returned p).number → o ≡ p
same_number o (Ok f) h e = absurd (omega arith)
same_number (Ok f) p h e = absurd (omega arith)
same_number (Err r) (Err s) h e = ap (λ (q : Refusal). Err q) ((known r).place ∙ ap refusal_at e ∙ sym (known s).place)
