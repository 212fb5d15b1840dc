-- What reading the recording and counting the lines make of a lesson, before any drill.
use mathlib.Core.Path.{refl}
use mathlib.Core.List.{List, [], ◌∷◌}
use Prim.Native.Nat.{ℕ, ◌<◌}
use native.Mathlib.Omega.{arith}
use Rattle.recording.specs.declared.Fault.{Fault}
use Rattle.recording.specs.declared.Fault.TheVariants.{Length, Head, Change}
use Rattle.std.specs.Prelude.{Ok, Option, Some, None}
use Rattle.std.specs.Option.{ok_or}
use Rattle.recording.specs.declared.Dimensions.{Dimensions}
use Rattle.recording.specs.Reading.{RecordingCause, ReadingAs}
use Rattle.outcome.specs.Outcome.{Err, Outcome}
use Rattle.outcome.specs.declared.Refusal.TheVariants.{RecordingLength, RecordingHead, RecordingChange, SheetForm}
use Rattle.outcome.specs.Outcome.{returned}
use Rattle.calls.specs.Causes.{First, NoCause}
use Rattle.calls.specs.Outcome.{largest}
use Rattle.calls.specs.Refusals.{recording_refusal}
use Rattle.calls.proofs.Causes.{NoneOf, none, ◌also◌, none_of}
use Rattle.lines.specs.Lines.{Unlined}
use Rattle.lines.specs.Taken.{CountedAs}
use Rattle.lessons.specs.Steps.{JudgedAs}
use Rattle.lessons.specs.Lessons.{LessonCause, recording_length, recording_head, recording_change, sheet_form, lesson_causes}

module _ (bytes text : List ℕ) where
  not_length : ¬ RecordingCause largest bytes 1 → ¬ LessonCause bytes text (Err RecordingLength)
  not_length n (recording_length c) = n c

  not_head : ¬ RecordingCause largest bytes 2 → ¬ LessonCause bytes text (Err RecordingHead)
  not_head n (recording_head c) = n c

  not_change : ¬ RecordingCause largest bytes 3 → ¬ LessonCause bytes text (Err RecordingChange)
  not_change n (recording_change c) = n c

  not_sheet : ¬ Unlined text → ¬ LessonCause bytes text (Err SheetForm)
  not_sheet n (sheet_form c) = n c

  -- a recording that is refused
  pub wrong_recording : (e : Fault) → ReadingAs largest bytes (Err e) → First lesson_causes (LessonCause bytes text) (Err (recording_refusal e))
  wrong_recording Length r = record { earlier = []; later = _; place = refl; holds = recording_length r.holds; none = none_of none }
  wrong_recording Head r =
      record {
        earlier = Err RecordingLength ∷ [];
        later = _;
        place = refl;
        holds = recording_head r.holds;
        none = none_of (not_length (r.first 1 (omega arith)) also none);
      }
  wrong_recording Change r =
      record {
        earlier = Err RecordingLength ∷ Err RecordingHead ∷ [];
        later = _;
        place = refl;
        holds = recording_change r.holds;
        none = none_of (not_length (r.first 1 (omega arith)) also not_head (r.first 2 (omega arith)) also none);
      }

  -- one that is read
  module _ {size : Dimensions} (r : ReadingAs largest bytes (Ok size)) where
    recordings : NoneOf (LessonCause bytes text) (Err RecordingLength ∷ Err RecordingHead ∷ Err RecordingChange ∷ [])
    recordings = not_length (r.0 1) also not_head (r.0 2) also not_change (r.0 3) also none

    pub wrong_sheet : Unlined text → First lesson_causes (LessonCause bytes text) (Err SheetForm)
    wrong_sheet u = record { earlier = Err RecordingLength ∷ Err RecordingHead ∷ Err RecordingChange ∷ []; later = _; place = refl; holds = sheet_form u; none = none_of recordings }

    pub none_wrong : ¬ Unlined text → NoCause lesson_causes (LessonCause bytes text)
    none_wrong n = none_of (not_length (r.0 1) also not_head (r.0 2) also not_change (r.0 3) also not_sheet n also none)

-- where the recording is read the lines decide
pub judged : {bytes : List ℕ} (text store : List ℕ) {size : Dimensions} → ReadingAs largest bytes (Ok size) → (sheet : Option ℕ) → CountedAs text store sheet
    → JudgedAs bytes text store (ok_or sheet SheetForm)
judged {bytes} text store r None h = wrong_sheet bytes text r h
judged {bytes} text store r (Some n) h = (none_wrong bytes text r (λ u. u h.drills h.lined), h)

-- ---- what is printed alone

-- the four outcomes are refusals
pub lesson_refusal : {bytes text : List ℕ} {o : Outcome} → First lesson_causes (LessonCause bytes text) o → 0 < (returned o).number
lesson_refusal {bytes} {text} f = go f.holds
  where
    go : {o : Outcome} → LessonCause bytes text o → 0 < (returned o).number
    go (recording_length c) = omega arith
    go (recording_head c) = omega arith
    go (recording_change c) = omega arith
    go (sheet_form c) = omega arith
