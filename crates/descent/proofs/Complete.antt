-- A text of the grammar is read by recursive descent, and so has one expression at most.
use mathlib.Core.Path.{◌≡◌, refl, sym, ◌∙◌}
use mathlib.Core.Bool.{true, false}
use mathlib.Core.List.{List, [], ◌∷◌, ◌++◌, append_assoc, append-nil}
use Prim.Native.Nat.{ℕ, ◌+◌}
use native.Mathlib.Omega.{arith}
use borrow.Author.Tests.{ne_eqb}
use Rattle.expression.specs.declared.Join.{Join}
use Rattle.expression.specs.declared.Join.TheVariants.{Union, Intersection, Concatenation}
use Rattle.expression.specs.Expression.{Expression, join}
use Rattle.expression.specs.Grammar.{
  Level,
  alternative,
  conjunction,
  sequence,
  factor,
  repeat,
  primary,
  Form,
  conjunction_alone,
  bar,
  sequence_alone,
  ampersand,
  factor_alone,
  dot,
  repeat_alone,
  tilde,
  primary_alone,
  asterisk,
  braces,
  underline,
  letter,
  exclamation,
  plus,
  minus,
  brackets,
}
use Rattle.tokens.specs.Tokens.{signed, Got, no, yes, branch, bind, starts, rest, expect, postfix}
use Rattle.descent.specs.Descent.{symbol, Rank, joining, factoring, repeating, single, below, descent}
use Rattle.tokens.proofs.Text.{yes_value}
use Rattle.descent.proofs.Sound.{sound}
use Rattle.descent.proofs.Steps.{joins_after, postfixes_after, joining_is, factoring_is, repeating_is, single_is, joins_on, joins_off, postfixes_on, postfixes_off}
use Rattle.tokens.proofs.Grammar.{ranged_on, limits_complete}

-- what comes after a text of a level stops the levels inside it
abbrev Stops : Rank → List ℕ → Type 0
Stops (joining Union) r = (starts 38 r ≡ false) × (starts 46 r ≡ false) × (postfix r ≡ no)
Stops (joining Intersection) r = (starts 46 r ≡ false) × (postfix r ≡ no)
Stops (joining Concatenation) r = postfix r ≡ no
Stops factoring r = postfix r ≡ no
Stops repeating r = Unit {0}
Stops single r = Unit {0}

-- how a level goes on after the expression e
abbrev after : Rank → Expression → List ℕ → Got Expression
after (joining j) e r = joins_after j e r
after factoring e r = yes e r
after repeating e r = postfixes_after e r
after single e r = yes e r

-- the level below a join stops too, and so does what is inside it
stops : (j : Join) (e : Expression) (r : List ℕ) → Stops (joining j) r → Stops (below j) r × (after (below j) e r ≡ yes e r)
stops Union e r z = ((z.1, z.2), joins_off Intersection e r z.0)
stops Intersection e r z = (z.1, joins_off Concatenation e r z.0)
stops Concatenation e r z = (z, refl)

own_symbol : (j : Join) (r : List ℕ) → Stops (joining j) (symbol j ∷ r)
unfolding starts branch
own_symbol Union r = (refl, refl, refl)
own_symbol Intersection r = (refl, refl)
own_symbol Concatenation r = refl

by_bracket : (r : List ℕ) → Stops (joining Union) (41 ∷ r)
unfolding starts branch
by_bracket r = (refl, refl, refl)

by_end : Stops (joining Union) []
unfolding starts branch
by_end = (refl, refl, refl)

-- descent reads s as e, whatever comes after it that stops the levels inside
abbrev Reads : Rank → List ℕ → Expression → Type 0
Reads k s e = (r : List ℕ) → Stops k r → descent k (s ++ r) ≡ after k e r

reads_alone : (j : Join) (s : List ℕ) (e : Expression) → Reads (below j) s e → Reads (joining j) s e
unfolding bind
reads_alone j s e f r z = let w = stops j e r z in joining_is j (s ++ r) ∙ rw (f r w.0 ∙ w.1)

reads_also : (j : Join) (s u : List ℕ) (e f : Expression) → Reads (joining j) s e → Reads (below j) u f → Reads (joining j) (s ++ (symbol j ∷ u)) (join j e f)
unfolding bind starts rest
reads_also j s u e f p q r z =
    let w = stops j f r z in
    rw append_assoc (p (symbol j ∷ (u ++ r)) (own_symbol j (u ++ r)) ∙ joins_on j e (symbol j ∷ (u ++ r)) (own j) ∙ rw (q r w.0 ∙ w.1))
  where
    own : (j : Join) → starts (symbol j) (symbol j ∷ (u ++ r)) ≡ true
    own Union = refl
    own Intersection = refl
    own Concatenation = refl

-- the ranks of the levels
abbrev rank : Level → Rank
rank alternative = joining Union
rank conjunction = joining Intersection
rank sequence = joining Concatenation
rank factor = factoring
rank repeat = repeating
rank primary = single

-- neither a primary nor a repeat begins with `~`
primary_untilded : {s : List ℕ} {e : Expression} → Form primary s e → (r : List ℕ) → starts 126 (s ++ r) ≡ false
unfolding starts
primary_untilded underline = λ r. refl
primary_untilded (letter {k = k} h) = λ r. let a : (97 + k ≡ 126) → ⊥ = omega arith in rw (ne_eqb _ _ a)
primary_untilded (exclamation h) = λ r. refl
primary_untilded (plus h) = λ r. refl
primary_untilded (minus h) = λ r. refl
primary_untilded (brackets f) = λ r. refl

untilded : {s : List ℕ} {e : Expression} → Form repeat s e → (r : List ℕ) → starts 126 (s ++ r) ≡ false
untilded (primary_alone f) = λ r. primary_untilded f r
untilded (asterisk f) = λ r. rw append_assoc (untilded f (42 ∷ r))
untilded (braces {u = u} f g) = λ r. rw append_assoc (untilded f (123 ∷ ((u ++ (125 ∷ [])) ++ r)))

complete : {l : Level} {s : List ℕ} {e : Expression} → Form l s e → Reads (rank l) s e
unfolding bind branch expect starts rest signed
complete (conjunction_alone {s = s} {e = e} f) = reads_alone Union s e (complete f)
complete (bar {s = s} {u = u} {e = e} {f = f} p q) = reads_also Union s u e f (complete p) (complete q)
complete (sequence_alone {s = s} {e = e} f) = reads_alone Intersection s e (complete f)
complete (ampersand {s = s} {u = u} {e = e} {f = f} p q) = reads_also Intersection s u e f (complete p) (complete q)
complete (factor_alone {s = s} {e = e} f) = reads_alone Concatenation s e (complete f)
complete (dot {s = s} {u = u} {e = e} {f = f} p q) = reads_also Concatenation s u e f (complete p) (complete q)
complete (repeat_alone {s = s} {e = e} f) = λ r z. factoring_is (s ++ r) ∙ rw (untilded f r) (complete f r tt ∙ postfixes_off e r z)
complete (tilde {s = s} {e = e} f) = λ r z. factoring_is (126 ∷ (s ++ r)) ∙ rw (complete f r tt ∙ postfixes_off e r z)
complete (primary_alone {s = s} f) = λ r z. repeating_is (s ++ r) ∙ rw (complete f r tt)
complete (asterisk {s = s} {e = e} f) = λ r z. rw append_assoc (complete f (42 ∷ r) tt ∙ postfixes_on e (42 ∷ r) refl)
complete (braces {s = s} {u = u} {e = e} f g) = λ r z.
    rw append_assoc
    (complete f (123 ∷ ((u ++ (125 ∷ [])) ++ r)) tt ∙ postfixes_on e (123 ∷ ((u ++ (125 ∷ [])) ++ r)) (rw (append_assoc u (125 ∷ []) r, limits_complete g r)))
complete underline = λ r z. single_is (95 ∷ r)
complete (letter {k = k} h) = λ r z.
    let a : (97 + k ≡ 40) → ⊥ = omega arith in
    let b : (97 + k ≡ 95) → ⊥ = omega arith in
    let c : (97 + k ≡ 33) → ⊥ = omega arith in
    let d : (97 + k ≡ 43) → ⊥ = omega arith in
    let e : (97 + k ≡ 45) → ⊥ = omega arith in
    single_is ((97 + k) ∷ r) ∙ rw (ne_eqb _ _ a, ne_eqb _ _ b, ne_eqb _ _ c, ne_eqb _ _ d, ne_eqb _ _ e, ranged_on 97 16 k r h)
complete (exclamation {k = k} h) = λ r z. single_is (33 ∷ (97 + k) ∷ r) ∙ rw (ranged_on 97 16 k r h)
complete (plus {k = k} h) = λ r z. single_is (43 ∷ (97 + k) ∷ r) ∙ rw (ranged_on 97 16 k r h)
complete (minus {k = k} h) = λ r z. single_is (45 ∷ (97 + k) ∷ r) ∙ rw (ranged_on 97 16 k r h)
complete (brackets {s = s} {e = e} f) = λ r z.
    single_is (40 ∷ ((s ++ (41 ∷ [])) ++ r)) ∙ rw (append_assoc, complete f (41 ∷ r) (by_bracket r), joins_off Union e (41 ∷ r) refl)

-- THE TWO WAYS, OF A WHOLE TEXT

pub whole_sound : (s : List ℕ) (e : Expression) → descent (joining Union) s ≡ yes e [] → Form alternative s e
unfolding descent
whole_sound s e h = let p = sound _ (joining Union) s e [] h in rw (p.1, append-nil) p.2

pub whole_complete : {s : List ℕ} {e : Expression} → Form alternative s e → descent (joining Union) s ≡ yes e []
unfolding starts
whole_complete {s} {e} f = rw append-nil at (complete f [] by_end) ∙ joins_off Union e [] refl

-- A text has one expression at most.
pub unique : {s : List ℕ} {e f : Expression} → Form alternative s e → Form alternative s f → e ≡ f
unique p q = yes_value (sym (whole_complete p) ∙ whole_complete q)
