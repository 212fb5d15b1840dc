-- What recursive descent reads is of the grammar.
use mathlib.Core.Path.{◌≡◌, sym, ap, subst, ◌∙◌, refl}
use mathlib.Core.Bool.{true}
use mathlib.Core.List.{List, [], ◌∷◌, ◌++◌, append_assoc, append-nil}
use mathlib.Core.Logic.{⊎_elim, ◌⊎◌, inl, inr}
use Prim.Native.Nat.{ℕ, zero, suc, ◌+◌, ◌<◌}
use native.Mathlib.Omega.{arith}
use lib.ListN.{length, length-append}
use Rattle.expression.specs.declared.Sign.{Sign}
use Rattle.expression.specs.declared.Sign.TheVariants.{High, Low, Rise, Fall}
use Rattle.expression.specs.declared.Join.{Join}
use Rattle.expression.specs.declared.Join.TheVariants.{Union, Intersection, Concatenation}
use Rattle.expression.specs.declared.Unary.{Unary}
use Rattle.expression.specs.Expression.{Expression, literal, join, unary}
use Rattle.expression.specs.Grammar.{
  Level,
  alternative,
  conjunction,
  sequence,
  factor,
  repeat,
  primary,
  Form,
  conjunction_alone,
  bar,
  sequence_alone,
  ampersand,
  factor_alone,
  dot,
  repeat_alone,
  tilde,
  primary_alone,
  asterisk,
  braces,
  underline,
  letter,
  exclamation,
  plus,
  minus,
  brackets,
}
use Rattle.tokens.specs.Tokens.{yes, bind, starts, rest, ranged, postfix, signed, lettered, Got, no}
use Rattle.tokens.proofs.Text.{yes_text, yes_value, bind_yes, branch_split, starts_is}
use Rattle.tokens.proofs.Grammar.{expect_sound, ranged_sound, limits_sound}
use Rattle.descent.specs.Descent.{postfixes, symbol, Rank, joining, factoring, repeating, single, below, read, joins, perhaps}

perhaps_split : {A B : Type 0} (g : Got A) (k : A → List ℕ → Got B) (h : Got B) {y : B} {r : List ℕ}
    → perhaps g k h ≡ yes y r → ((x : A) × (s : List ℕ) × (g ≡ yes x s) × (k x s ≡ yes y r)) ⊎ ((g ≡ no) × (h ≡ yes y r))
perhaps_split no k h e = inr (refl, e)
perhaps_split (yes x s) k h e = inl (x, s, refl, e)

-- the grammar's level of a rank
abbrev pub level : Rank → Level
level (joining Union) = alternative
level (joining Intersection) = conjunction
level (joining Concatenation) = sequence
level factoring = factor
level repeating = repeat
level single = primary

-- a joining level, by its two rules
pub alone : (j : Join) {s : List ℕ} {e : Expression} → Form (level (below j)) s e → Form (level (joining j)) s e
alone Union f = conjunction_alone f
alone Intersection f = sequence_alone f
alone Concatenation f = factor_alone f

pub also : (j : Join) {s u : List ℕ} {e f : Expression} → Form (level (joining j)) s e → Form (level (below j)) u f
    → Form (level (joining j)) (s ++ (symbol j ∷ u)) (join j e f)
also Union f g = bar f g
also Intersection f g = ampersand f g
also Concatenation f g = dot f g

-- no text of the grammar is empty
pub some : {l : Level} {s : List ℕ} {e : Expression} → Form l s e → 0 < length s
some (conjunction_alone f) = some f
some (bar {s = s} {u = u} f g) = simp length-append (omega arith)
some (sequence_alone f) = some f
some (ampersand f g) = simp length-append (omega arith)
some (factor_alone f) = some f
some (dot f g) = simp length-append (omega arith)
some (repeat_alone f) = some f
some (tilde f) = omega arith
some (primary_alone f) = some f
some (asterisk f) = simp length-append (omega arith)
some (braces f g) = simp length-append (omega arith)
some underline = omega arith
some (letter h) = omega arith
some (exclamation h) = omega arith
some (plus h) = omega arith
some (minus h) = omega arith
some (brackets f) = omega arith

-- the part of s before r, which is the expression e at the level l
abbrev Before : Level → List ℕ → Expression → List ℕ → Type 0
Before l s e r = (u : List ℕ) × (s ≡ u ++ r) × Form l u e

-- more of the same level after w
abbrev More : Level → List ℕ → List ℕ → Expression → List ℕ → Type 0
More l w s e r = (u : List ℕ) × (s ≡ u ++ r) × Form l (w ++ u) e

no_more : {l : Level} {w s : List ℕ} {e f : Expression} {r : List ℕ} → yes e s ≡ yes f r → Form l w e → More l w s f r
no_more {l} {w} e f = ([], yes_text e, subst (λ (x : Expression). Form l (w ++ []) x) (yes_value e) (rw append-nil f))

-- an operator after its operand goes on after any repeat
postfix_sound : (s : List ℕ) (u : Unary) (r : List ℕ) → postfix s ≡ yes u r
    → (p : List ℕ) × (s ≡ p ++ r) × (0 < length p) × ((w : List ℕ) (e : Expression) → Form repeat w e → Form repeat (w ++ p) (unary u e))
postfix_sound s u r h =
    ⊎_elim
    (λ p. (
      42 ∷ [],
      starts_is 42 s p.0 ∙ ap (λ (x : List ℕ). 42 ∷ x) (yes_text p.1),
      omega arith,
      λ w e f. subst (λ (x : Unary). Form repeat (w ++ (42 ∷ [])) (unary x e)) (yes_value p.1) (asterisk f),
    ))
    (λ p. ⊎_elim
    (λ q.
    let b = bind_yes _ _ q.1 in
    let l = limits_sound (rest s) b.0 b.1 b.2 in (
      123 ∷ (l.0 ++ (125 ∷ [])),
      starts_is 123 s q.0 ∙ ap (λ (x : List ℕ). 123 ∷ x) (l.1 ∙ ap (λ (x : List ℕ). l.0 ++ (125 ∷ x)) (yes_text b.3) ∙ sym (append_assoc l.0 (125 ∷ []) r)),
      omega arith,
      λ w e f. subst (λ (x : Unary). Form repeat (w ++ (123 ∷ (l.0 ++ (125 ∷ [])))) (unary x e)) (yes_value b.3) (braces f l.2),
    ))
    (λ q. cc)
    (branch_split _ _ _ p.1))
    (branch_split _ _ _ h)

postfixes_sound : (n : ℕ) (w : List ℕ) (t : Expression) (s : List ℕ) (u : Expression) (r : List ℕ) → postfixes n t s ≡ yes u r → Form repeat w t → More repeat w s u r
unfolding postfixes
postfixes_sound zero w t s u r e f = cc
postfixes_sound (suc n) w t s u r e f =
    ⊎_elim
    (λ p.
    let h = postfix_sound s p.0 p.1 p.2 in
    let k = postfixes_sound n (w ++ h.0) (unary p.0 t) p.1 u r p.3 (h.3 w t f) in
    (h.0 ++ k.0, rw append_assoc (rw (← k.1) h.1), rw (← append_assoc w h.0 k.0) k.2))
    (λ p. no_more p.1 f)
    (perhaps_split (postfix s) _ _ e)

letter_sound : (s : List ℕ) (t : Expression) (r : List ℕ) (f : ℕ → Expression) (w : List ℕ)
    → ((k : ℕ) → k < 16 → Form primary (w ++ ((97 + k) ∷ [])) (f k)) → bind (ranged 97 16 s) (λ k q. yes (f k) q) ≡ yes t r → Before primary (w ++ s) t r
letter_sound s t r f w g e =
    let b = bind_yes _ _ e in
    let h = ranged_sound 97 16 s b.0 b.1 b.2 in (
      w ++ ((97 + b.0) ∷ []),
      ap (λ (x : List ℕ). w ++ x) (h.1 ∙ ap (λ (x : List ℕ). (97 + b.0) ∷ x) (yes_text b.3)) ∙ sym (append_assoc w ((97 + b.0) ∷ []) r),
      subst (λ (x : Expression). Form primary (w ++ ((97 + b.0) ∷ [])) x) (yes_value b.3) (g b.0 h.0),
    )

-- the part of s before t is a sign, which with any letter after it is a primary
abbrev Signs : List ℕ → Sign → List ℕ → Type 0
Signs s g t = (w : List ℕ) × (s ≡ w ++ t) × ((k : ℕ) → k < 16 → Form primary (w ++ ((97 + k) ∷ [])) (literal g k))

signed_sound : (s : List ℕ) (g : Sign) (t : List ℕ) → signed s ≡ yes g t → Signs s g t
unfolding signed
signed_sound s g t e =
    ⊎_elim (λ x. sign 33 Low (λ k l. exclamation l) x)
    (λ x. ⊎_elim (λ y. sign 43 Rise (λ k l. plus l) y)
    (λ y. ⊎_elim (λ z. sign 45 Fall (λ k l. minus l) z) (λ z. before [] High (λ k l. letter l) refl z.1) (branch_split _ _ _ y.1))
    (branch_split _ _ _ x.1))
    (branch_split _ _ _ e)
  where
    before : (w : List ℕ) {u : List ℕ} (h : Sign) → ((k : ℕ) → k < 16 → Form primary (w ++ ((97 + k) ∷ [])) (literal h k))
        → s ≡ w ++ u → yes h u ≡ yes g t → Signs s g t
    before w h f m q =
        (w, m ∙ ap (λ (x : List ℕ). w ++ x) (yes_text q), λ k l. subst (λ (x : Sign). Form primary (w ++ ((97 + k) ∷ [])) (literal x k)) (yes_value q) (f k l))

    sign : (c : ℕ) (h : Sign) → ((k : ℕ) → k < 16 → Form primary (c ∷ (97 + k) ∷ []) (literal h k))
        → (starts c s ≡ true) × (yes h (rest s) ≡ yes g t) → Signs s g t
    sign c h f x = before (c ∷ []) h f (starts_is c s x.0) x.1

lettered_sound : (s : List ℕ) (t : Expression) (r : List ℕ) → lettered s ≡ yes t r → Before primary s t r
lettered_sound s t r e =
    let b = bind_yes _ _ e in
    let w = signed_sound s b.0 b.1 b.2 in
    let h = letter_sound b.1 t r (literal b.0) w.0 w.2 b.3 in
    (h.0, w.1 ∙ h.1, h.2)

mutual
  unfolding read

  pub sound : (n : ℕ) (k : Rank) (s : List ℕ) (t : Expression) (r : List ℕ) → read n k s ≡ yes t r → Before (level k) s t r
  sound zero k s t r e = cc
  sound (suc n) (joining j) s t r e =
      let b = bind_yes _ _ e in
      let h = sound n (below j) s b.0 b.1 b.2 in
      let k = joins_sound n j h.0 b.0 b.1 t r b.3 (alone j h.2) in
      (h.0 ++ k.0, rw append_assoc (rw (← k.1) h.1), k.2)
  sound (suc n) factoring s t r e =
      ⊎_elim
      (λ w.
      let b = bind_yes _ _ w.1 in
      let h = sound n repeating (rest s) b.0 b.1 b.2 in (
        126 ∷ h.0,
        starts_is 126 s w.0 ∙ ap (λ (y : List ℕ). 126 ∷ y) (h.1 ∙ ap (λ (y : List ℕ). h.0 ++ y) (yes_text b.3)),
        subst (λ (x : Expression). Form factor (126 ∷ h.0) x) (yes_value b.3) (tilde h.2),
      ))
      (λ w. let h = sound n repeating s t r w.1 in (h.0, h.1, repeat_alone h.2))
      (branch_split _ _ _ e)
  sound (suc n) repeating s t r e =
      let b = bind_yes _ _ e in
      let h = sound n single s b.0 b.1 b.2 in
      let k = postfixes_sound (suc (length b.1)) h.0 b.0 b.1 t r b.3 (primary_alone h.2) in
      (h.0 ++ k.0, rw append_assoc (rw (← k.1) h.1), k.2)
  sound (suc n) single s t r e =
      ⊎_elim
      (λ v.
      let b = bind_yes _ _ v.1 in
      let h = sound n (joining Union) (rest s) b.0 b.1 b.2 in
      let k = expect_sound 41 b.0 b.1 t r b.3 in (
        40 ∷ (h.0 ++ (41 ∷ [])),
        starts_is 40 s v.0 ∙ ap (λ (y : List ℕ). 40 ∷ y) (h.1 ∙ ap (λ (y : List ℕ). h.0 ++ y) k.1 ∙ sym (append_assoc h.0 (41 ∷ []) r)),
        subst (λ (y : Expression). Form primary (40 ∷ (h.0 ++ (41 ∷ []))) y) k.0 (brackets h.2),
      ))
      (λ v. ⊎_elim
      (λ w. (
        95 ∷ [],
        starts_is 95 s w.0 ∙ ap (λ (y : List ℕ). 95 ∷ y) (yes_text w.1),
        subst (λ (x : Expression). Form primary (95 ∷ []) x) (yes_value w.1) underline,
      ))
      (λ w. lettered_sound s t r w.1)
      (branch_split _ _ _ v.1))
      (branch_split _ _ _ e)

  joins_sound : (n : ℕ) (j : Join) (w : List ℕ) (t : Expression) (s : List ℕ) (u : Expression) (r : List ℕ)
      → joins n j t s ≡ yes u r → Form (level (joining j)) w t → More (level (joining j)) w s u r
  joins_sound zero j w t s u r e f = cc
  joins_sound (suc n) j w t s u r e f =
      ⊎_elim
      (λ p.
      let b = bind_yes _ _ p.1 in
      let h = sound n (below j) (rest s) b.0 b.1 b.2 in
      let k = joins_sound n j (w ++ (symbol j ∷ h.0)) (join j t b.0) b.1 u r b.3 (also j f h.2) in (
        (symbol j ∷ h.0) ++ k.0,
        starts_is (symbol j) s p.0 ∙ ap (λ (x : List ℕ). symbol j ∷ x) (h.1 ∙ ap (λ (x : List ℕ). h.0 ++ x) k.1 ∙ sym (append_assoc h.0 k.0 r)),
        rw (← append_assoc w (symbol j ∷ h.0) k.0) k.2,
      ))
      (λ p. no_more p.1 f)
      (branch_split _ _ _ e)

-- what is read is not empty
pub shorter : (n : ℕ) (k : Rank) (s : List ℕ) (t : Expression) (r : List ℕ) → read n k s ≡ yes t r → length r < length s
shorter n k s t r e =
    let p = sound n k s t r e in
    omega (arith, some p.2, simp length-append at (ap length p.1))

pub postfix_shorter : (s : List ℕ) (u : Unary) (r : List ℕ) → postfix s ≡ yes u r → length r < length s
postfix_shorter s u r e = let p = postfix_sound s u r e in omega (arith, p.2, simp length-append at (ap length p.1))
