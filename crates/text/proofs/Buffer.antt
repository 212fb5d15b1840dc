-- Texts that go into a buffer piece by piece.
use mathlib.Core.Path.{◌≡◌, refl, sym, ap, ◌∙◌}
use mathlib.Core.Logic.{◌⊎◌, inl, inr, ⊎_elim}
use mathlib.Core.Bool.{Bool, true, false}
use mathlib.Core.List.{List, [], ◌∷◌, ◌++◌, append_assoc, append-nil}
use Prim.Native.Nat.{ℕ, ◌+◌, ◌-◌, ◌≤◌, ◌<◌}
use native.Mathlib.Numerals.{add-one}
use native.Mathlib.Omega.{arith}
use lib.Dec.{leb}
use lib.ListN.{length, take, drop, set, length-append, length-take, length-drop, drop_of_length-le, take-append-drop}
use lib.Seq.{take-nil, take_all, take-append-le, take-append-add, take_at, drop_at, drop-drop, set_split}
use borrow.Author.Tests.{le-leb, lt-leb, leb-true, leb-false}
use Rattle.std.specs.Prelude.{Option, Some, None}
use Rattle.text.specs.declared.Text.{Text}
use Rattle.text.specs.Buffer.{onto, fitted, behind, written_after, Appends, Begins, Puts}

-- ---- the two ways that a text lies in a buffer

pub fits_onto : (t o : List ℕ) → length t ≤ length o → onto t o ≡ t ++ drop (length t) o
unfolding onto
fits_onto t o h = rw (take_all (length o) t h)

pub fits_fitted : (m n : ℕ) → m ≤ n → fitted m n ≡ Some m
unfolding fitted
fits_fitted m n h = rw (le-leb _ _ h)

pub over_fitted : (m n : ℕ) → n < m → fitted m n ≡ None
unfolding fitted
over_fitted m n h = rw (lt-leb _ _ h)

pub length_onto : (t o : List ℕ) → length (onto t o) ≡ length o
unfolding onto
length_onto t o = simp (length-append, length-take, length-drop) (omega arith)

or_longer_by : (m n : ℕ) (b : Bool) → leb m n ≡ b → (m ≤ n) ⊎ (n < m)
or_longer_by m n true e = inl (leb-true _ _ e)
or_longer_by m n false e = inr (leb-false _ _ e)

pub or_longer : (m n : ℕ) → (m ≤ n) ⊎ (n < m)
or_longer m n = or_longer_by m n (leb m n) refl

-- A count is answered only of a text that fits, and is its length.
pub fitted_bytes : {m n at : ℕ} → Some at ≡ fitted m n → (at ≡ m) × (m ≤ n)
fitted_bytes {m} {n} {at} e =
    ⊎_elim
    (λ h. let f : fitted m n ≡ Some m = fits_fitted m n h in let g : at ≡ m = cc in (g, h))
    (λ h. let f : fitted m n ≡ None = over_fitted m n h in let z : ◌≡◌ {A = ℕ} 0 1 = cc in absurd (omega arith))
    (or_longer m n)

-- ---- a text in two pieces

nothing_onto : (o : List ℕ) → onto [] o ≡ o
unfolding onto
nothing_onto o = rw take-nil

-- where the first fits, the second goes behind it
onto_behind : (s t o : List ℕ) → length s ≤ length o → onto (s ++ t) o ≡ s ++ onto t (drop (length s) o)
unfolding onto
onto_behind s t o h =
    let e : length o ≡ length s + length (drop (length s) o) = omega (arith, length-drop (length s) o) in
    rw (e, take-append-add s t (length (drop (length s) o)), length-append s t, drop-drop (length t) (length s) o, append_assoc)

-- where it does not, or just does, the second is left out
full_onto : (s t o : List ℕ) → length o ≤ length s → onto (s ++ t) o ≡ onto s o
unfolding onto
full_onto s t o h =
    rw (take-append-le (length o) s t h, drop_of_length-le o {i = length s} h, drop_of_length-le o {i = length (s ++ t)} (omega (arith, length-append s t)))

-- ---- a byte

module _ {out : List ℕ} (b : ℕ) where
  pub put_in : (at : ℕ) → at < length out → Appends (b ∷ []) out (Some at) (set out at b) (Some (at + 1))
  unfolding behind written_after
  put_in at l =
      record {
        bytes = rw (set_split out at b l, fits_onto (b ∷ []) (drop at out) (omega (arith, length-drop at out)), drop-drop 1 at out, add-one);
        answer = sym (fits_fitted (at + 1) (length out) (omega arith));
      }

  pub put_full : (at : ℕ) → length out ≤ at → Appends (b ∷ []) out (Some at) out None
  unfolding behind written_after onto
  put_full at l =
      record {
        bytes = rw (take_all at out l, drop_of_length-le out {i = at} l, append-nil);
        answer = sym (over_fitted (at + 1) (length out) (omega arith));
      }

  -- after a text that had no room nothing goes in
  pub put_none : Appends (b ∷ []) out None out None
  unfolding behind written_after
  put_none = record { bytes = refl; answer = refl }

-- ---- a text piece by piece

nothing_behind : (w : Option ℕ) (out : List ℕ) → behind [] w out ≡ out
unfolding behind
nothing_behind (Some n) out = rw (nothing_onto (drop n out)) (take-append-drop n out)
nothing_behind None out = refl

pub nothing : {out : List ℕ} {w : Option ℕ} → Appends [] out w out w
unfolding written_after
nothing {out} {w} = record { bytes = sym (nothing_behind w out); answer = refl }

length_behind : (s : List ℕ) (w : Option ℕ) (out : List ℕ) → length (behind s w out) ≡ length out
unfolding behind
length_behind s (Some n) out = simp (length-append, length_onto, length-take, length-drop) (omega arith)
length_behind s None out = refl

reached_none : (t : List ℕ) (room : ℕ) → written_after t None room ≡ None
unfolding written_after
reached_none [] room = refl
reached_none (c ∷ t) room = refl

module _ (p t : List ℕ) (n : ℕ) where
  behind_some : (out : List ℕ) → behind t (fitted (n + length p) (length out)) (behind p (Some n) out) ≡ behind (p ++ t) (Some n) out
  unfolding behind
  behind_some out =
      ⊎_elim
      (λ (h : n + length p ≤ length out).
      let k : length (drop n out) ≡ length out - n = length-drop n out in
      let m : length (take n out ++ p) ≡ n + length p = simp (length-append, length-take) (omega arith) in
      let x : take n out ++ onto p (drop n out) ≡ (take n out ++ p) ++ drop (length p) (drop n out) = rw (fits_onto p (drop n out) (omega arith), append_assoc) in
      rw (fits_fitted (n + length p) (length out) h, x, take_at (take n out ++ p) (drop (length p) (drop n out)) (n + length p) m, drop_at (take n out ++ p) (drop (length p) (drop n out)) (n + length p) m, onto_behind p t (drop n out) (omega arith), append_assoc))
      (λ h. rw (over_fitted (n + length p) (length out) h, full_onto p t (drop n out) (omega (arith, length-drop n out))))
      (or_longer (n + length p) (length out))

  reached_fits : (u : List ℕ) (room : ℕ) → n + length p ≤ room → written_after u (Some (n + length p)) room ≡ fitted (n + (length p + length u)) room
  unfolding written_after
  reached_fits [] room h = sym (fits_fitted (n + length p) room h) ∙ ap (λ (k : ℕ). fitted k room) (omega arith)
  reached_fits (c ∷ u) room h = ap (λ (k : ℕ). fitted k room) (omega arith)

  reached_some : (room : ℕ) → written_after t (fitted (n + length p) room) room ≡ fitted (n + length (p ++ t)) room
  reached_some room =
      ⊎_elim
      (λ h. rw (fits_fitted (n + length p) room h, length-append p t) (reached_fits t room h))
      (λ h. rw (over_fitted (n + length p) room h, over_fitted (n + length (p ++ t)) room (omega (arith, length-append p t))) (reached_none t room))
      (or_longer (n + length p) room)

behind_both : (s t : List ℕ) (w : Option ℕ) (out : List ℕ) → behind t (written_after s w (length out)) (behind s w out) ≡ behind (s ++ t) w out
unfolding behind written_after
behind_both [] t w out = rw (nothing_behind w out)
behind_both (b ∷ s) t None out = refl
behind_both (b ∷ s) t (Some n) out = behind_some (b ∷ s) t n out

reached_both : (s t : List ℕ) (w : Option ℕ) (room : ℕ) → written_after t (written_after s w room) room ≡ written_after (s ++ t) w room
unfolding written_after
reached_both [] t w room = refl
reached_both (b ∷ s) t None room = reached_none t room
reached_both (b ∷ s) t (Some n) room = reached_some (b ∷ s) t n room

pub both : {s t a b c : List ℕ} {u v w : Option ℕ} → Appends s a u b v → Appends t b v c w → Appends (s ++ t) a u c w
both {s} {t} {a} {u = u} f g =
    record {
      bytes = rw (g.bytes, f.answer, f.bytes) (behind_both s t u a);
      answer = rw (g.answer, f.answer, f.bytes, length_behind s u a) (reached_both s t u (length a));
    }

-- ---- the text itself

-- a byte that has room, the first that has none, and one behind that
module _ {t u : Text} {b : ℕ} (same : u.out.ghost_name ≡ t.out.ghost_name) where
  pub puts_in : {at : ℕ} → t.written ≡ Some at → at < length t.out.now → u.out.now ≡ set t.out.now at b → u.written ≡ Some (at + 1) → Puts (b ∷ []) t u
  puts_in {at} w l bytes answer = record { same = same; step = rw (w, bytes, answer) (put_in b at l) }

  pub puts_full : {at : ℕ} → t.written ≡ Some at → length t.out.now ≤ at → u.out.now ≡ t.out.now → u.written ≡ None → Puts (b ∷ []) t u
  puts_full {at} w l bytes answer = record { same = same; step = rw (w, bytes, answer) (put_full b at l) }

pub puts_none : {t : Text} {b : ℕ} → t.written ≡ None → Puts (b ∷ []) t t
puts_none {b = b} w = record { same = refl; step = rw w (put_none b) }

pub puts_nothing : {t : Text} → Puts [] t t
puts_nothing = record { same = refl; step = nothing }

infixr 40 ◌then◌
pub ◌then◌ : {r s : List ℕ} {t u v : Text} → Puts r t u → Puts s u v → Puts (r ++ s) t v
◌then◌ f g = record { same = g.same ∙ f.same; step = both f.step g.step }

-- ---- a whole text, from the front on

pub whole : (s : List ℕ) {out out' : List ℕ} {w : Option ℕ} → Appends s out (Some 0) out' w → (out' ≡ onto s out) × (w ≡ fitted (length s) (length out))
unfolding behind written_after
whole [] {out} a = (a.bytes, a.answer ∙ sym (fits_fitted 0 (length out) (omega arith)))
whole (b ∷ s) {out} a = (a.bytes, a.answer ∙ ap (λ (k : ℕ). fitted k (length out)) (omega arith))

pub from_begin : {s out out' : List ℕ} {t u : Text} → Begins out t → Puts s t u → out' ≡ u.out.now → Appends s out (Some 0) out' u.written
from_begin b p e = rw e (rw (b.bytes, b.answer) at p.step)
