-- Which texts are sheets, and of which drills.
use mathlib.Core.Path.{◌≡◌, refl, sym, ap, subst, ◌∙◌}
use mathlib.Core.Logic.{◌↔◌, ◌⊎◌, inl, inr, ⊎_elim}
use mathlib.Core.List.Memᴰ.{cases_cons}
use mathlib.Core.List.Memᴰ.{head}
use mathlib.Core.List.Memᴰ.{not-nil}
use mathlib.Core.List.Memᴰ.{tail}
use mathlib.Core.List.{List, [], ◌∷◌, append-nil, Memᴰ}
use Prim.Native.Nat.{ℕ, zero, suc, ◌≤◌, ◌<◌}
use native.Mathlib.Decide.{dec_le}
use native.Mathlib.Nat.{le_of_suc-le-suc}
use native.Mathlib.Omega.{arith}
use lib.ListN.{length, get_or}
use Rattle.lines.specs.Lines.{most_lines, Unbroken, Lined, Unlined, Parted}
use Rattle.lines.proofs.Parting.{parted_unique, parted_exists}

-- nothing stands behind the newline of the last drill
pub lined_parted : {text : List ℕ} {drills : List (List ℕ)} → Lined text drills → Parted text drills []
lined_parted h = record { whole = h.whole ∙ sym (append-nil _); plain = h.plain; last = not-nil }

-- A text has one list of drills.
pub lined_unique : {text : List ℕ} {ds es : List (List ℕ)} → Lined text ds → Lined text es → ds ≡ es
lined_unique p q = (parted_unique (lined_parted p) (lined_parted q)).0

-- ---- every text is a sheet or none

-- the four causes of 12, of a text in its parts
pub data Fault (lines : List (List ℕ)) (rest : List ℕ) : Type 0 where
  -- "no line"
  no_line : length lines ≡ 0 → Fault lines rest
  -- "more than eight"
  too_many : most_lines < length lines → Fault lines rest
  -- "an empty line"
  one_empty : Memᴰ [] lines → Fault lines rest
  -- "a last line without newline"
  unended : 0 < length rest → Fault lines rest

pub no_byte : (s : List ℕ) → length s ≡ 0 → s ≡ []
no_byte [] e = refl
no_byte (b ∷ s) e = absurd (omega arith)

empty_or_not : (lines : List (List ℕ)) → Dec (Memᴰ [] lines)
empty_or_not [] = no not-nil
empty_or_not ([] ∷ ls) = yes (head refl)
empty_or_not ((b ∷ l) ∷ ls) = elim (empty_or_not ls) [
  | yes m ↦ yes (tail m)
  | no f ↦ no (λ m. ⊎_elim (λ (e : [] ≡ b ∷ l). let z : ◌≡◌ {A = ℕ} 0 1 = cc in omega arith) f (cases_cons m))
]

module _ {text rest : List ℕ} {lines : List (List ℕ)} (p : Parted text lines rest) where
  -- if the text is a sheet, its drills are its lines, and there is no rest
  same : {drills : List (List ℕ)} → Lined text drills → (lines ≡ drills) × (rest ≡ [])
  same l = parted_unique p (lined_parted l)

  pub unlined : Fault lines rest → Unlined text
  unlined (no_line h) drills l = let e = ap length (same l).0 in omega arith
  unlined (too_many h) drills l = let e = ap length (same l).0 in omega arith
  unlined (one_empty m) drills l = l.filled (subst (Memᴰ []) (same l).0 m)
  unlined (unended h) drills l = let e = ap length (same l).1 in omega arith

  pub lined : 0 < length lines → length lines ≤ most_lines → ¬ Memᴰ [] lines → length rest ≡ 0 → Lined text lines
  lined some few filled none =
      record {
        whole = p.whole ∙ rw (no_byte rest none) (append-nil _);
        plain = p.plain;
        filled = filled;
        some = some;
        few = few;
      }

  judged : Lined text lines ⊎ Fault lines rest
  judged = elim (dec_le 1 (length lines)) [
    | no h ↦ inr (no_line (omega arith))
    | yes some ↦ (elim (dec_le (length lines) most_lines) [
      | no h ↦ inr (too_many (omega arith))
      | yes few ↦ (elim (empty_or_not lines) [
        | yes m ↦ inr (one_empty m)
        | no filled ↦ (elim (dec_le 1 (length rest)) [
          | yes h ↦ inr (unended h)
          | no h ↦ inl (lined some few filled (omega arith))
        ])
      ])
    ])
  ]

  -- A text is no sheet exactly where it has one of the four causes of 12.
  pub unlined_fault : Unlined text ↔ Fault lines rest
  unlined_fault = (λ u. ⊎_elim (λ l. absurd (u lines l)) (λ f. f) judged, unlined)

-- Every text is a sheet of some drills, or of none.
pub lined_or_not : (text : List ℕ) → ((drills : List (List ℕ)) × Lined text drills) ⊎ Unlined text
lined_or_not text = let p = (parted_exists text).2 in ⊎_elim (λ l. inl (_, l)) (λ f. inr (unlined p f)) (judged p)

-- ---- the drills of a sheet

pub at_mem : {A : Type 0} (l : List A) (i : ℕ) (a : A) → i < length l → Memᴰ (get_or l i a) l
at_mem [] i a h = absurd (omega arith)
at_mem (x ∷ l) zero a h = head refl
at_mem (x ∷ l) (suc i) a h = tail (at_mem l i a (le_of_suc-le-suc h))

-- No drill of a sheet has a newline in it, which `line` asks of what it hands out.
pub drill_plain : {text : List ℕ} {drills : List (List ℕ)} {k : ℕ} → Lined text drills → k < length drills → Unbroken (get_or drills k [])
drill_plain {drills = drills} {k = k} l within = l.plain _ (at_mem drills k [] within)
