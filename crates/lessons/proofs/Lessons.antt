-- A lesson comes to something, and to one thing: one number, one text, and one content of each buffer.
use mathlib.Core.Path.{◌≡◌, refl, ap, subst}
use mathlib.Core.Logic.{⊎_elim}
use mathlib.Core.List.{List}
use Prim.Native.Nat.{ℕ, ◌<◌}
use native.Mathlib.Omega.{arith}
use lib.ListN.{length}
use lib.IntN.{ℤ}
use Rattle.outcome.specs.Outcome.{Outcome}
use Rattle.outcome.specs.Outcome.{returned}
use Rattle.outcome.proofs.Numbers.{same_number}
use Rattle.calls.specs.Causes.{First}
use Rattle.recording.specs.declared.Dimensions.{Dimensions}
use Rattle.recording.specs.declared.Fault.{Fault}
use Rattle.recording.specs.declared.Fault.TheVariants.{Length}
use Rattle.std.specs.Prelude.{Result, Ok, Err}
use Rattle.recording.specs.Reading.{ReadingAs}
use Rattle.recording.proofs.Refusals.{reading_exists, refused_length}
use Rattle.calls.specs.Outcome.{largest}
use Rattle.calls.proofs.Causes.{first_unique, not_refused}
use Rattle.results.specs.Results.{Results, with_numbers}
use Rattle.results.proofs.Unique.{results_unique, results_exist}
use Rattle.finder.proofs.Longer.{Alike}
use Rattle.sheet.specs.Sheet.{refused}
use Rattle.lines.proofs.Lined.{lined_unique, lined_or_not}
use Rattle.lessons.specs.Lessons.{LessonCause, lesson_causes, Demand1Lesson, LessonAs, LessonAs.turned_back, LessonAs.held}
use Rattle.lessons.proofs.Judging.{wrong_recording, wrong_sheet, none_wrong, lesson_refusal}

-- Theorem: of a recording, a text and both buffers a lesson is one thing only.
pub one_lesson : {bytes text p q : List ℕ} {m n : ℕ} {answer work a w b v : List ℤ} → LessonAs bytes text answer work m p a w → LessonAs bytes text answer work n q b v
    → (m ≡ n) × (p ≡ q) × (a ≡ b) × (w ≡ v)
one_lesson (turned_back f) (turned_back g) = let e = ap (λ (o : Outcome). (returned o).number) (first_unique f g) in (e, ap refused e, refl, refl)
one_lesson (turned_back f) (held n l r) = absurd (not_refused n f)
one_lesson (held n l r) (turned_back g) = absurd (not_refused n g)
one_lesson {bytes} {answer = answer} {work = work} {a = a} {w = w} (held {results = rs} n l r) (held m k s) =
    let u = results_unique refl refl (subst (λ (ds : List (List ℕ)). Results bytes answer work ds rs a w) (lined_unique l k) r) s in
    (refl, ap (with_numbers 1) u.0, u.1, u.2)

-- Theorem: there is a lesson of any recording, text and buffers.
pub some_lesson : (bytes text : List ℕ) (answer work : List ℤ)
    → (number : ℕ) × (printed : List ℕ) × (answer' : List ℤ) × (work' : List ℤ) × LessonAs bytes text answer work number printed answer' work'
some_lesson bytes text answer work = let a = reading_exists largest bytes in read a.0 a.1
  where
    read : (a : Result Dimensions Fault) → ReadingAs largest bytes a
        → (number : ℕ) × (printed : List ℕ) × (answer' : List ℤ) × (work' : List ℤ) × LessonAs bytes text answer work number printed answer' work'
    read (Err e) r = (_, _, _, _, turned_back (wrong_recording bytes text e r))
    read (Ok size) r =
        ⊎_elim (λ l. let s = results_exist bytes answer work l.0 in (0, _, s.1, s.2, held (none_wrong bytes text r (λ u. u l.0 l.1)) l.1 s.3))
        (λ u. (12, _, _, _, turned_back (wrong_sheet bytes text r u))) (lined_or_not text)

-- Its number is that of a refusal exactly where that is the first cause, and 0 exactly where none holds.
pub promised_lesson : {bytes text printed : List ℕ} {number : ℕ} {answer work answer' work' : List ℤ} → LessonAs bytes text answer work number printed answer' work'
    → Demand1Lesson bytes text answer work number printed answer' work'
promised_lesson {bytes} {text} (turned_back {o} f) =
    record {
      defined = turned_back f;
      refuses = λ p h. (λ e. subst (First lesson_causes (LessonCause bytes text)) (same_number o p h e) f, λ g. ap (λ (q : Outcome). (returned q).number) (first_unique f g));
      accepts = (λ e. absurd (omega (arith, lesson_refusal f)), λ n. absurd (not_refused n f));
    }
promised_lesson (held n l r) = record { defined = held n l r; refuses = λ p h. (λ e. absurd (omega arith), λ g. absurd (not_refused n g)); accepts = (λ _. n, λ _. refl) }

-- A lesson cannot tell two recordings that are both too long.
too_long : (bytes text : List ℕ) {answer work : List ℤ} → largest < length bytes → LessonAs bytes text answer work 1 (refused 1) answer work
too_long bytes text long = turned_back (wrong_recording bytes text Length (refused_length (λ s. omega (arith, s.within))))

pub longer_lesson : {bytes bytes' text printed : List ℕ} {number : ℕ} {answer work answer' work' : List ℤ} → Alike largest bytes bytes'
    → LessonAs bytes text answer work number printed answer' work' → LessonAs bytes' text answer work number printed answer' work'
longer_lesson {bytes} {bytes'} {text} {printed} {number} {answer} {work} {answer'} {work'} alike h =
    ⊎_elim (λ (e : bytes ≡ bytes'). subst (λ (x : List ℕ). LessonAs x text answer work number printed answer' work') e h) long alike
  where
    long : (largest < length bytes) × (largest < length bytes') → LessonAs bytes' text answer work number printed answer' work'
    long l =
        let u = one_lesson h (too_long bytes text l.0) in
        rw (u.0, u.1, u.2, u.3) (too_long bytes' text l.1)
