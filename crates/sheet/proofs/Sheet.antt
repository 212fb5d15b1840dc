-- The sheet of each outcome, and what is answered of it.
use mathlib.Core.Path.{◌≡◌, refl, ap, ◌∙◌}
use mathlib.Core.Logic.{⊎_elim}
use mathlib.Core.List.{List, ◌++◌}
use Prim.Native.Nat.{ℕ, ◌*◌, ◌≤◌, ◌<◌}
use native.Mathlib.Omega.{arith}
use lib.IntN.{ℤ}
use lib.ListN.{length, take, drop}
use lib.Seq.{take-append_seam, drop-append_seam}
use borrow.Author.Tests.{le-leb, lt-leb}
use Rattle.std.specs.Prelude.{Option, Some, None, Ok, Err}
use Rattle.std.proofs.lemmas.Bool.{ne_eqb}
use Rattle.text.specs.Buffer.{Appends}
use Rattle.text.proofs.Buffer.{or_longer, fits_onto, fits_fitted, over_fitted, fitted_bytes, whole}
use Rattle.outcome.specs.declared.Returned.{Returned}
use Rattle.outcome.specs.Outcome.{Outcome, number_of, returned}
use Rattle.outcome.proofs.Numbers.{number_range}
use Rattle.sheet.specs.Sheet.{finished, refused, sheet}
use Rattle.sheet.specs.Buffer.{TooSmall, FrontShort, of_text, answer, left}

-- what a refusal comes to
pub refusal_sheet : (o : Outcome) → 0 < (returned o).number → (front : List ℤ) → (sheet (returned o) front ≡ refused (returned o).number) × ((returned o).zones ≡ 0) × ((returned o).number < 100)
unfolding sheet
refusal_sheet (Ok f) n front = absurd (omega arith)
refusal_sheet (Err r) n front = let k = number_range r in (rw (ne_eqb (number_of r) 0 (λ e. omega arith)), refl, omega arith)

-- what a finished list comes to
pub finished_sheet : (r : Returned) (front : List ℤ) → r.number ≡ 0 → sheet r front ≡ finished r.zones r.rounds front
unfolding sheet
finished_sheet r front e = rw e

module _ (r : Returned) (front : List ℤ) {out : List ℕ} where
  pub told : {out' : List ℕ} {w : Option ℕ} → r.zones * 6 ≤ length front → Appends (sheet r front) out (Some 0) out' w → (of_text w ≡ answer r front (length out)) × (out' ≡ left r front out)
  unfolding answer left
  told h a =
      let g = whole _ a in
      (rw (le-leb _ _ h) (ap of_text g.1), rw (le-leb _ _ h) g.0)

  pub told_short : length front < r.zones * 6 → (Err FrontShort ≡ answer r front (length out)) × (out ≡ left r front out)
  unfolding answer left
  told_short h = (rw (lt-leb _ _ h), rw (lt-leb _ _ h))

-- ---- what the contract comes to, case by case

from_text : {n : ℕ} (w : Option ℕ) → Ok n ≡ of_text w → Some n ≡ w
from_text (Some m) e = cc
from_text None e = cc

-- n bytes are written: they are the sheet, and the rest is as it was
pub record Stands (r : Returned) (front : List ℤ) (out : List ℕ) (n : ℕ) : Type 0 where
  pub size : n ≡ length (sheet r front)
  pub room : n ≤ length out
  pub bytes : take n (left r front out) ≡ sheet r front
  pub rest : drop n (left r front out) ≡ drop n out

module _ (r : Returned) (front : List ℤ) where
  -- Where the words of all zones are there and the sheet fits, its length is answered.
  pub fits : (room : ℕ) → r.zones * 6 ≤ length front → length (sheet r front) ≤ room → answer r front room ≡ Ok (length (sheet r front))
  unfolding answer
  fits room h k = rw (le-leb _ _ h) (ap of_text (fits_fitted (length (sheet r front)) room k))

  -- Where the words are there and the sheet is longer than the buffer, TooSmall is.
  pub too_small : (room : ℕ) → r.zones * 6 ≤ length front → room < length (sheet r front) → answer r front room ≡ Err TooSmall
  unfolding answer
  too_small room h k = rw (le-leb _ _ h) (ap of_text (over_fitted (length (sheet r front)) room k))

  -- Where words of zones are missing, FrontShort is.
  pub front_short : (room : ℕ) → length front < r.zones * 6 → answer r front room ≡ Err FrontShort
  unfolding answer
  front_short room h = rw (lt-leb _ _ h)

  -- Where a count is answered, the sheet stands in that many bytes of the buffer.
  pub stands : (out : List ℕ) {n : ℕ} → Ok n ≡ answer r front (length out) → Stands r front out n
  unfolding answer left
  stands out {n} e =
      ⊎_elim
      (λ h.
      let f = fitted_bytes {m = length (sheet r front)} {n = length out} (from_text _ (e ∙ rw (le-leb (r.zones * 6) (length front) h))) in
      let o : left r front out ≡ sheet r front ++ drop (length (sheet r front)) out = rw (le-leb (r.zones * 6) (length front) h) (fits_onto (sheet r front) out f.1) in
      record {
        size = f.0;
        room = omega arith;
        bytes = rw (f.0, o, take-append_seam);
        rest = rw (f.0, o, drop-append_seam);
      })
      (λ h. let g : answer r front (length out) ≡ Err FrontShort = front_short (length out) h in let z : ◌≡◌ {A = ℕ} 0 1 = cc in absurd (omega arith))
      (or_longer (r.zones * 6) (length front))
