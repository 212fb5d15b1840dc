-- What is printed of a lesson, in front of a buffer.
use mathlib.Core.Path.{◌≡◌, sym, ap, subst, ◌∙◌}
use mathlib.Core.List.{List, ◌++◌}
use Prim.Native.Nat.{ℕ, ◌≤◌}
use native.Mathlib.Omega.{arith}
use lib.IntN.{ℤ}
use lib.ListN.{length, take, drop, length-append}
use lib.Seq.{take-append_seam, drop-append_seam}
use Rattle.io.specs.Counts.{IsPrefixLen}
use Rattle.std.specs.Prelude.{Option, Some}
use Rattle.std.specs.Option.{unwrap_or}
use Rattle.text.specs.Buffer.{Appends}
use Rattle.text.proofs.Buffer.{whole, fits_onto, fits_fitted}
use Rattle.outcome.specs.Outcome.{Outcome}
use Rattle.outcome.specs.Outcome.{returned}
use Rattle.calls.specs.Causes.{First, NoCause}
use Rattle.sheet.specs.Sheet.{sheet, refused}
use Rattle.sheet.proofs.Sheet.{refusal_sheet}
use Rattle.sheet.proofs.Bounds.{refused_length}
use Rattle.lines.specs.Taken.{LinesAs}
use Rattle.results.specs.Results.{with_numbers, ResultsPrinted, AllPrinted}
use Rattle.lessons.specs.Lessons.{longest_lesson, LessonCause, lesson_causes, LessonAs, turned_back, held}
use Rattle.lessons.proofs.Judging.{lesson_refusal}

-- so many bytes are the text, and those behind it are as they were
abbrev pub Stands : (text out out' : List ℕ) (size : ℕ) → Type 0
Stands text out out' size = (take size out' ≡ text) × (IsPrefixLen size out' × (drop size out' ≡ drop size out))

stands : (s : List ℕ) {out out' : List ℕ} {w : Option ℕ} → Appends s out (Some 0) out' w → length s ≤ length out → Stands s out out' (unwrap_or w 0)
stands s {out} {out'} {w} a room =
    let g = whole s a in
    let size : w ≡ Some (length s) = g.1 ∙ fits_fitted (length s) (length out) room in
    let front : out' ≡ s ++ drop (length s) out = g.0 ∙ fits_onto s out room in
    let t = take-append_seam s (drop (length s) out) in
    rw (size, front) (t, ((omega (arith, length-append s (drop (length s) out)), sym (ap length t)), drop-append_seam s (drop (length s) out)))

-- a refusal that is printed alone
module _ {bytes text : List ℕ} {o : Outcome} (first : First lesson_causes (LessonCause bytes text) o) (front : List ℤ) {out out' : List ℕ} {w : Option ℕ} {size : ℕ}
    (room : longest_lesson ≤ length out) (a : Appends (sheet (returned o) front) out (Some 0) out' w) (e : size ≡ unwrap_or w 0) where
  pub alone_stands : Stands (refused (returned o).number) out out' size
  alone_stands =
      let r = refusal_sheet o (lesson_refusal first) front in
      rw e (stands (refused (returned o).number) (rw r.0 at a) (omega (arith, refused_length (returned o).number r.2)))

  pub alone : {answer work : List ℤ} {n : ℕ} → n ≡ (returned o).number → LessonAs bytes text answer work n (take size out') answer work
  alone {answer} {work} f = rw f (subst (λ (s : List ℕ). LessonAs bytes text answer work (returned o).number s answer work) (sym alone_stands.0) (turned_back first))

-- all results
module _ {bytes text store : List ℕ} {answer work answer' work' : List ℤ} {out out' : List ℕ} {w : Option ℕ} {n size : ℕ} (lines : LinesAs text store n)
    (room : longest_lesson ≤ length out) (printed : AllPrinted bytes store n answer work answer' work' out out' w) (e : size ≡ unwrap_or w 0) where
  pub these : ResultsPrinted bytes lines.drills answer work answer' work' out out' w
  these = printed lines.drills lines.count lines.stored lines.lined.plain

  pub all_stand : Stands (with_numbers 1 these.each) out out' size
  all_stand = subst (Stands (with_numbers 1 these.each) out out') (sym e) (stands (with_numbers 1 these.each) these.appends (omega (arith, these.short, lines.lined.few)))

  pub all : NoCause lesson_causes (LessonCause bytes text) → LessonAs bytes text answer work 0 (take size out') answer' work'
  all ruled = subst (λ (s : List ℕ). LessonAs bytes text answer work 0 s answer' work') (sym all_stand.0) (held ruled lines.lined these.results)
