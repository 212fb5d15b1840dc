-- A text parts into the lines that a newline ended and the rest behind the last newline: always, and in one way only.
use mathlib.Core.Path.{◌≡◌, refl, sym, subst, ◌∙◌}
use mathlib.Core.Logic.{⊎_elim}
use mathlib.Core.List.Memᴰ.{append_cases}
use mathlib.Core.List.Memᴰ.{append_right}
use mathlib.Core.List.Memᴰ.{eq_of_singleton}
use mathlib.Core.List.Memᴰ.{head}
use mathlib.Core.List.Memᴰ.{not-nil}
use mathlib.Core.List.Memᴰ.{tail}
use mathlib.Core.List.{List, [], ◌∷◌, ◌++◌, append_assoc, append-nil}
use Prim.Native.Nat.{ℕ}
use native.Mathlib.Decide.{ℕ_discrete}
use lib.Seq.{append_snoc}
use Rattle.lines.specs.Lines.{newline, terminated, joined, Unbroken, Parted}

-- ---- in one way only

-- the first newline ends the first line
first_line : (l k : List ℕ) {u v : List ℕ} → Unbroken l → Unbroken k → l ++ (newline ∷ u) ≡ k ++ (newline ∷ v) → (l ≡ k) × (u ≡ v)
first_line [] [] p q e = (refl, cc)
first_line [] (c ∷ k) p q e = absurd (q (head (cc)))
first_line (b ∷ l) [] p q e = absurd (p (head (cc)))
first_line (b ∷ l) (c ∷ k) {u} {v} p q e =
    let first : b ≡ c = cc in
    let later : l ++ (newline ∷ u) ≡ k ++ (newline ∷ v) = cc in
    let r = first_line l k (λ m. p (tail m)) (λ m. q (tail m)) later in
    (cc, r.1)

-- a text with a line in it has a newline
broken : (l u : List ℕ) {s : List ℕ} → s ≡ l ++ (newline ∷ u) → ¬ Unbroken s
broken l u e h = h (rw e (append_right l (head refl)))

-- what stands behind the first line
behind : {text u rest l : List ℕ} {lines : List (List ℕ)} → Parted text (l ∷ lines) rest → u ≡ joined lines ++ rest → Parted u lines rest
behind p e = record { whole = e; plain = λ l m. p.plain l (tail m); last = p.last }

unique : (ls ks : List (List ℕ)) {text r s : List ℕ} → Parted text ls r → Parted text ks s → (ls ≡ ks) × (r ≡ s)
unfolding joined
unique [] [] p q = (refl, sym p.whole ∙ q.whole)
unique [] (k ∷ ks) p q = absurd (broken k _ (simp append_assoc at (sym p.whole ∙ q.whole)) p.last)
unique (l ∷ ls) [] p q = absurd (broken l _ (simp append_assoc at (sym q.whole ∙ p.whole)) q.last)
unique (l ∷ ls) (k ∷ ks) p q =
    let f = first_line l k (p.plain l (head refl)) (q.plain k (head refl)) (simp append_assoc at (sym p.whole ∙ q.whole)) in
    let g = unique ls ks (behind p refl) (behind q f.1) in
    (cc, g.1)

-- A text parts in one way only.
pub parted_unique : {text r s : List ℕ} {ls ks : List (List ℕ)} → Parted text ls r → Parted text ks s → (ls ≡ ks) × (r ≡ s)
parted_unique {ls = ls} {ks = ks} p q = unique ls ks p q

-- ---- always, byte by byte

-- without a byte there is no line
pub parted_none : Parted [] [] []
unfolding joined
parted_none = record { whole = refl; plain = λ l m. absurd (not-nil m); last = not-nil }

joined_more : (lines : List (List ℕ)) (l : List ℕ) → joined (lines ++ (l ∷ [])) ≡ joined lines ++ terminated l
unfolding joined
joined_more [] l = append-nil _
joined_more (k ∷ lines) l = simp (joined_more lines l, append_assoc)

module _ {text rest : List ℕ} {lines : List (List ℕ)} (p : Parted text lines rest) where
  -- a newline makes a line of the rest ..
  pub parted_newline : Parted (terminated text) (lines ++ (rest ∷ [])) []
  parted_newline =
      record {
        whole = rw (append-nil, joined_more, p.whole, append_assoc);
        plain = λ l m. ⊎_elim (p.plain l) (λ k. subst Unbroken (sym (eq_of_singleton k)) p.last) (append_cases lines m);
        last = not-nil;
      }

  -- .. and any other byte goes behind it
  pub parted_byte : {b : ℕ} → ¬ (b ≡ newline) → Parted (text ++ (b ∷ [])) lines (rest ++ (b ∷ []))
  parted_byte {b} other =
      record {
        whole = rw (p.whole, append_assoc);
        plain = p.plain;
        last = λ m. ⊎_elim p.last (λ k. other (sym (eq_of_singleton k))) (append_cases rest m);
      }

abbrev Parts : List ℕ → Type 0
Parts text = (lines : List (List ℕ)) × (rest : List ℕ) × Parted text lines rest

parts_more : {text : List ℕ} (b : ℕ) → Parts text → Parts (text ++ (b ∷ []))
parts_more b p = elim (ℕ_discrete b newline) [
  | yes e ↦ (p.0 ++ (p.1 ∷ []), [], rw e (parted_newline p.2))
  | no other ↦ (p.0, p.1 ++ (b ∷ []), parted_byte p.2 other)
]

parts : (done text : List ℕ) → Parts done → Parts (done ++ text)
parts done [] p = rw (append-nil done) p
parts done (b ∷ text) p = rw (append_snoc done b text) at (parts (done ++ (b ∷ [])) text (parts_more b p))

-- Every text parts.
pub parted_exists : (text : List ℕ) → (lines : List (List ℕ)) × (rest : List ℕ) × Parted text lines rest
parted_exists text = parts [] text ([], [], parted_none)
