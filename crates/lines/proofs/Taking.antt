-- The state and the store sum up the text so far, before its first byte and after each.
use mathlib.Core.Path.{◌≡◌, refl, sym, ap, subst}
use mathlib.Core.Bool.{Bool, true, false, true≢false, ◌||◌, or-true}
use mathlib.Core.Logic.{◌↔◌, ⊎_elim}
use mathlib.Core.List.Memᴰ.{append_cases}
use mathlib.Core.List.Memᴰ.{append_left}
use mathlib.Core.List.Memᴰ.{append_right}
use mathlib.Core.List.Memᴰ.{eq_of_singleton}
use mathlib.Core.List.Memᴰ.{head}
use mathlib.Core.List.Memᴰ.{not-nil}
use mathlib.Core.List.{List, [], ◌∷◌, ◌++◌, Memᴰ}
use Prim.Native.Nat.{ℕ, ◌+◌, ◌<◌, ◌≤◌, min}
use native.Mathlib.Decide.{dec_lt}
use native.Mathlib.Omega.{arith}
use lib.Dec.{eqb}
use borrow.Author.Tests.{eqb-true, eq-eqb}
use lib.ListN.{length, length-append, get_or-append}
use lib.Seq.{get_or-append_seam}
use Rattle.lines.specs.declared.Taken.{Taken}
use Rattle.lines.specs.Lines.{most_lines, newline, terminated, Lined}
use Rattle.lines.specs.Taken.{place_bytes, store_bytes, Held, Stored, Sums}
use Rattle.lines.specs.Steps.{kept}
use Rattle.lines.proofs.Parting.{parted_none, parted_newline, parted_byte, parted_unique}
use Rattle.lines.proofs.Lined.{no_byte, lined_parted}
use Rattle.lines.proofs.Store.{held_none, held_other, held_more}

-- before the first byte
pub sums_none : (store : List ℕ) → Sums [] store (record { lines = 0; begun = 0; empty = false })
sums_none store =
    record {
      lines = [];
      rest = [];
      parted = parted_none;
      count = refl;
      begun = refl;
      empty = (λ e. absurd (true≢false (sym e)), λ m. absurd (not-nil m));
      stored = λ k small within. absurd (omega arith);
      next = λ small. held_none store 0;
    }

module _ {text store : List ℕ} {s : Taken} (size : store_bytes ≤ length store) (h : Sums text store s) where
  -- the store after the next byte
  abbrev after : ℕ → List ℕ
  after b = kept store s.lines s.begun b

  -- the lines so far stay as they are ..
  stays : (b : ℕ) → Stored (after b) h.lines
  stays b k small within = held_other (h.stored k small within) s.lines s.begun b (λ e. omega arith)

  -- .. and the one that is coming in has the byte
  grows : (b : ℕ) → length h.lines < most_lines → Held (after b) (length h.lines) (h.rest ++ (b ∷ []))
  grows b small =
      let e : s.lines ≡ length h.lines = omega arith in
      rw e (held_more (h.next small) b size small h.begun)

  -- an empty line is among those so far, or it is the one that the newline ends
  also_empty : ((s.empty || eqb s.begun 0) ≡ true) ↔ Memᴰ [] (h.lines ++ (h.rest ∷ []))
  also_empty = (to s.empty refl, λ m. ⊎_elim earlier now (append_cases h.lines m))
    where
      to : (t : Bool) → s.empty ≡ t → (t || eqb s.begun 0) ≡ true → Memᴰ [] (h.lines ++ (h.rest ∷ []))
      to true e q = append_left (h.rest ∷ []) (h.empty.0 e)
      to false e q = append_right h.lines (head (sym (no_byte h.rest (omega (arith, eqb-true s.begun 0 q)))))

      earlier : Memᴰ [] h.lines → (s.empty || eqb s.begun 0) ≡ true
      earlier m = rw (h.empty.1 m)

      now : Memᴰ [] (h.rest ∷ []) → (s.empty || eqb s.begun 0) ≡ true
      now m =
          let e : length h.rest ≡ 0 = sym (ap length (eq_of_singleton m)) in
          rw (eq-eqb s.begun 0 (omega arith)) (or-true s.empty)

  -- a newline ends the line that is coming in
  pub sums_newline : {n : ℕ} {t : Bool} → n ≡ min (most_lines + 1) (s.lines + 1) → t ≡ (s.empty || eqb s.begun 0) → Sums (terminated text) (after newline) (record { lines = n; begun = 0; empty = t })
  sums_newline counted judged =
      let total : length (h.lines ++ (h.rest ∷ [])) ≡ length h.lines + 1 = length-append h.lines (h.rest ∷ []) in
      record {
        lines = h.lines ++ (h.rest ∷ []);
        rest = [];
        parted = parted_newline h.parted;
        count = omega arith;
        begun = refl;
        empty = rw judged also_empty;
        stored = stored;
        next = λ small. held_none _ _;
      }
    where
      stored : Stored (after newline) (h.lines ++ (h.rest ∷ []))
      stored k small within = elim (dec_lt k (length h.lines)) [
        | yes before ↦ rw (get_or-append h.lines (h.rest ∷ []) [] k before) (stays newline k small before)
        | no past ↦ (
            let e : k ≡ length h.lines = omega (arith, length-append h.lines (h.rest ∷ [])) in
            rw (e, get_or-append_seam h.lines h.rest [] []) (grows newline (omega arith)))
      ]

  -- any other byte goes behind it
  pub sums_byte : {b n : ℕ} → ¬ (b ≡ newline) → n ≡ min place_bytes (s.begun + 1) → Sums (text ++ (b ∷ [])) (after b) (record { lines = s.lines; begun = n; empty = s.empty })
  sums_byte {b} other e =
      record {
        lines = h.lines;
        rest = h.rest ++ (b ∷ []);
        parted = parted_byte h.parted other;
        count = h.count;
        begun = omega (arith, length-append h.rest (b ∷ []));
        empty = h.empty;
        stored = stays b;
        next = grows b;
      }

-- what is known of a text that is a sheet
pub of_sheet : {text store : List ℕ} {s : Taken} {drills : List (List ℕ)} → Sums text store s → Lined text drills → (0 < s.lines) × (s.lines ≤ most_lines) × (s.begun ≡ 0) × ¬ (s.empty ≡ true)
of_sheet h l =
    let ap_lines = ap length (parted_unique h.parted (lined_parted l)).0 in
    let ap_rest = ap length (parted_unique h.parted (lined_parted l)).1 in
    let some = l.some in
    let few = l.few in
    (omega arith, omega arith, omega arith, λ e. l.filled (subst (Memᴰ []) (parted_unique h.parted (lined_parted l)).0 (h.empty.0 e)))
