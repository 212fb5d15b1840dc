-- Numbers and ranges: what is read of them is of the grammar, and what is of the grammar is read.
use Rattle.std.proofs.Common.{Option, Some}
use mathlib.Core.Path.{◌≡◌, sym, ap, subst, ◌∙◌, refl}
use mathlib.Core.List.{List, [], ◌∷◌, ◌++◌, append_assoc, append-nil}
use mathlib.Core.Logic.{⊎_elim}
use mathlib.Core.Bool.{Bool, true, false}
use Prim.Native.Nat.{ℕ, ◌+◌, ◌-◌, ◌*◌, ◌<◌, ◌≤◌}
use native.Mathlib.Omega.{arith}
use lib.Dec.{ltb}
use borrow.Author.Tests.{ltb-true, ltb-false, lt-ltb, le-ltb, ne_eqb}
use Rattle.expression.specs.declared.Range.{Range}
use Rattle.expression.specs.declared.End.{End}
use Rattle.expression.specs.declared.End.TheVariants.{Closed, Open}
use Rattle.expression.specs.Grammar.{Number, digit, digit_after, Bound, reached, not_reached, Limits, from, between}
use Rattle.tokens.specs.Tokens.{yes, bind, rest, expect, ranged, digits, numeral, numbered, bound, upper_end, limits, no, branch, starts}
use Rattle.tokens.proofs.Text.{yes_text, yes_value, bind_yes, branch_split, starts_is}

pub expect_sound : {A : Type 0} (c : ℕ) (x : A) (s : List ℕ) (y : A) (r : List ℕ) → expect c x s ≡ yes y r → (x ≡ y) × (s ≡ c ∷ r)
unfolding expect
expect_sound c x s y r e =
    ⊎_elim (λ w. (yes_value w.1, starts_is c s w.0 ∙ ap (λ (t : List ℕ). c ∷ t) (yes_text w.1))) (λ w. cc)
    (branch_split _ _ _ e)

pub ranged_sound : (first count : ℕ) (s : List ℕ) (k : ℕ) (r : List ℕ) → ranged first count s ≡ yes k r → (k < count) × (s ≡ (first + k) ∷ r)
unfolding ranged
ranged_sound first count [] k r e = cc
ranged_sound first count (c ∷ s) k r e =
    ⊎_elim (λ w. cc)
    (λ w. ⊎_elim
    (λ v.
    let lo = ltb-false c first w.0 in
    let hi = ltb-true (c - first) count v.0 in
    let is = yes_value v.1 in
    let same : c ≡ first + k = omega arith in
    (omega arith, cc (yes_text v.1)))
    (λ v. cc)
    (branch_split _ _ _ w.1))
    (branch_split _ _ _ e)

digits_sound : (n : ℕ) (s w : List ℕ) (m : ℕ) (r : List ℕ) → digits n s ≡ yes m r → Number w n → (u : List ℕ) × (s ≡ u ++ r) × Number (w ++ u) m
unfolding digits
digits_sound n [] w m r e f = ([], yes_text e, subst (λ (x : ℕ). Number (w ++ []) x) (yes_value e) (rw append-nil f))
digits_sound n (c ∷ s) w m r e f =
    ⊎_elim
    (λ p. ⊎_elim (λ q. stop q.1)
    (λ q. ⊎_elim
    (λ z.
    let lo = ltb-false c 48 q.0 in
    let small = ltb-true (c - 48) 10 z.0 in
    let is : 48 + (c - 48) ≡ c = omega arith in
    let g : Number (w ++ (c ∷ [])) (n * 10 + (c - 48)) = subst (λ (x : ℕ). Number (w ++ (x ∷ [])) (n * 10 + (c - 48))) is (digit_after f (ltb-true 0 n p.0) small) in
    let k = digits_sound (n * 10 + (c - 48)) s (w ++ (c ∷ [])) m r z.1 g in
    (c ∷ k.0, ap (λ (x : List ℕ). c ∷ x) k.1, rw (← append_assoc w (c ∷ []) k.0) k.2))
    (λ z. stop z.1)
    (branch_split _ _ _ q.1))
    (branch_split _ _ _ p.1))
    (λ p. stop p.1)
    (branch_split _ _ _ e)
  where
    stop : yes n (c ∷ s) ≡ yes m r → (u : List ℕ) × ((c ∷ s) ≡ u ++ r) × Number (w ++ u) m
    stop x = ([], yes_text x, subst (λ (y : ℕ). Number (w ++ []) y) (yes_value x) (rw append-nil f))

number_sound : (s : List ℕ) (m : ℕ) (r : List ℕ) → numeral s ≡ yes m r → (u : List ℕ) × (s ≡ u ++ r) × Number u m
unfolding numeral
number_sound s m r e =
    let b = bind_yes _ _ e in
    let h = ranged_sound 48 10 s b.0 b.1 b.2 in
    let k = digits_sound b.0 b.1 ((48 + b.0) ∷ []) m r b.3 (digit h.0) in
    ((48 + b.0) ∷ k.0, h.1 ∙ ap (λ (x : List ℕ). (48 + b.0) ∷ x) k.1, k.2)

numbered_sound : (kind : ℕ → End) (s : List ℕ) (x : End) (r : List ℕ) → numbered kind s ≡ yes x r → (u : List ℕ) × (s ≡ u ++ r) × (n : ℕ) × Number u n × (kind n ≡ x)
unfolding numbered
numbered_sound kind s x r e =
    let b = bind_yes _ _ e in
    let h = number_sound s b.0 b.1 b.2 in
    (h.0, h.1 ∙ ap (λ (y : List ℕ). h.0 ++ y) (yes_text b.3), b.0, h.2, yes_value b.3)

bound_sound : (s : List ℕ) (x : End) (r : List ℕ) → bound s ≡ yes x r → (u : List ℕ) × (s ≡ u ++ r) × Bound u x
unfolding bound
bound_sound s x r e =
    ⊎_elim
    (λ p.
    let h = numbered_sound Open (rest s) x r p.1 in
    (60 ∷ h.0, starts_is 60 s p.0 ∙ ap (λ (y : List ℕ). 60 ∷ y) h.1, subst (Bound (60 ∷ h.0)) h.4 (not_reached h.3)))
    (λ p. let h = numbered_sound Closed s x r p.1 in (h.0, h.1, subst (Bound h.0) h.4 (reached h.3)))
    (branch_split _ _ _ e)

upper_sound : (s w : List ℕ) (lo : End) (x : Option End) (r : List ℕ) → upper_end s ≡ yes x r → Bound w lo
    → (u : List ℕ) × ((44 ∷ s) ≡ u ++ (125 ∷ r)) × Limits (w ++ u) (record { lo = lo; hi = x })
unfolding upper_end
upper_sound s w lo x r e f =
    ⊎_elim
    (λ p. (
      44 ∷ [],
      ap (λ (y : List ℕ). 44 ∷ y) (starts_is 125 s p.0 ∙ ap (λ (y : List ℕ). 125 ∷ y) (yes_text p.1)),
      subst (λ (y : Option End). Limits (w ++ (44 ∷ [])) (record { lo = lo; hi = y })) (yes_value p.1) (from f),
    ))
    (λ p.
    let b = bind_yes _ _ p.1 in
    let h = bound_sound s b.0 b.1 b.2 in
    let k = expect_sound 125 (Some b.0) b.1 x r b.3 in (
      44 ∷ h.0,
      ap (λ (y : List ℕ). 44 ∷ y) (h.1 ∙ ap (λ (y : List ℕ). h.0 ++ y) k.1),
      subst (λ (y : Option End). Limits (w ++ (44 ∷ h.0)) (record { lo = lo; hi = y })) k.0 (between f h.2),
    ))
    (branch_split _ _ _ e)

pub limits_sound : (s : List ℕ) (x : Range) (r : List ℕ) → limits s ≡ yes x r → (u : List ℕ) × (s ≡ u ++ (125 ∷ r)) × Limits u x
unfolding limits
limits_sound s x r e =
    let b = bind_yes _ _ e in
    let c = bind_yes _ _ b.3 in
    let d = bind_yes _ _ c.3 in
    let h = bound_sound s b.0 b.1 b.2 in
    let k = expect_sound 44 b.0 b.1 c.0 c.1 c.2 in
    let m = upper_sound c.1 h.0 b.0 d.0 d.1 d.2 h.2 in
    let v : ◌≡◌ {A = Range} (record { lo = b.0; hi = d.0 }) x = ap (λ (lo : End). record { lo = lo; hi = d.0 }) k.0 ∙ yes_value d.3 in (
      h.0 ++ m.0,
      h.1 ∙ ap (λ (y : List ℕ). h.0 ++ y) (k.1 ∙ m.1 ∙ ap (λ (y : List ℕ). m.0 ++ (125 ∷ y)) (yes_text d.3)) ∙ sym (append_assoc h.0 m.0 (125 ∷ r)),
      subst (λ (y : Range). Limits (h.0 ++ m.0) y) v m.2,
    )

pub ranged_on : (first count k : ℕ) (s : List ℕ) → k < count → ranged first count ((first + k) ∷ s) ≡ yes k s
unfolding ranged branch
ranged_on first count k s h =
    let a : first ≤ first + k = omega arith in
    let e : first + k - first ≡ k = omega arith in
    rw (le-ltb _ _ a, e, lt-ltb _ _ h)

pub digits_on : (n d : ℕ) (s : List ℕ) → 0 < n → d < 10 → digits n ((48 + d) ∷ s) ≡ digits (n * 10 + d) s
unfolding digits branch
digits_on n d s h k =
    let a : 48 ≤ 48 + d = omega arith in
    let e : 48 + d - 48 ≡ d = omega arith in
    rw (lt-ltb 0 n h, le-ltb _ _ a, e, lt-ltb _ _ k)

-- no digit stands at the front of s
pub digits_off : (n : ℕ) (s : List ℕ) → ranged 48 10 s ≡ no → digits n s ≡ yes n s
unfolding digits ranged branch
digits_off n [] e = refl
digits_off n (c ∷ s) e = go (ltb 0 n) (ltb c 48) (ltb (c - 48) 10) refl refl refl
  where
    go : (a b d : Bool) → ltb 0 n ≡ a → ltb c 48 ≡ b → ltb (c - 48) 10 ≡ d → digits n (c ∷ s) ≡ yes n (c ∷ s)
    go false b d p q r = rw p
    go true true d p q r = rw (p, q)
    go true false false p q r = rw (p, q, r)
    go true false true p q r = let z : ◌≡◌ {A = ℕ} 0 1 = cc (rw (q, r) at e) in absurd (omega arith)

number_complete : {u : List ℕ} {n : ℕ} → Number u n → (r : List ℕ) → numeral (u ++ r) ≡ digits n r
unfolding numeral bind
number_complete (digit {d = d} h) = λ r. rw (ranged_on 48 10 d r h)
number_complete (digit_after {s = s} {n = n} {d = d} f h k) = λ r. rw append_assoc (number_complete f ((48 + d) ∷ r) ∙ digits_on n d r h k)

number_head : {u : List ℕ} {n : ℕ} → Number u n → (c : ℕ) × (v : List ℕ) × (u ≡ c ∷ v) × (c < 58)
number_head (digit {d = d} h) = (48 + d, [], refl, omega arith)
number_head (digit_after {d = d} f h k) =
    let g = number_head f in
    (g.0, g.1 ++ ((48 + d) ∷ []), ap (λ (x : List ℕ). x ++ ((48 + d) ∷ [])) g.2, g.3)

numbered_complete : (kind : ℕ → End) {u : List ℕ} {n : ℕ} → Number u n → (r : List ℕ) → ranged 48 10 r ≡ no → numbered kind (u ++ r) ≡ yes (kind n) r
unfolding numbered bind
numbered_complete kind {n = n} f r e = rw (number_complete f r ∙ digits_off n r e)

bound_complete : {u : List ℕ} {x : End} → Bound u x → (r : List ℕ) → ranged 48 10 r ≡ no → bound (u ++ r) ≡ yes x r
unfolding bound branch starts rest
bound_complete (reached f) = λ r e.
    let g = number_head f in
    let d : g.0 ≡ 60 → ⊥ = omega (arith, g.3) in
    rw g.2 (rw (ne_eqb _ _ d) (rw g.2 at (numbered_complete Closed f r e)))
bound_complete (not_reached f) = λ r e. numbered_complete Open f r e

-- an end begins with no closing brace
bound_head : {u : List ℕ} {x : End} → Bound u x → (c : ℕ) × (v : List ℕ) × (u ≡ c ∷ v) × (c < 61)
bound_head (reached f) = let g = number_head f in (g.0, g.1, g.2, omega (arith, g.3))
bound_head (not_reached {s = s} f) = (60, s, refl, omega arith)

upper_complete : {u : List ℕ} {x : End} → Bound u x → (r : List ℕ) → upper_end (u ++ (125 ∷ r)) ≡ yes (Some x) r
unfolding upper_end branch bind expect starts rest ranged
upper_complete {u} {x} f r =
    let g = bound_head f in
    let d : g.0 ≡ 125 → ⊥ = omega (arith, g.3) in
    let e : bound (g.0 ∷ (g.1 ++ (125 ∷ r))) ≡ yes x (125 ∷ r) = rw g.2 at (bound_complete f (125 ∷ r) refl) in
    rw g.2 (rw (ne_eqb _ _ d, e))

pub limits_complete : {u : List ℕ} {x : Range} → Limits u x → (r : List ℕ) → limits (u ++ (125 ∷ r)) ≡ yes x r
unfolding limits bind expect branch upper_end starts rest ranged
limits_complete (from {s = s} {lo = lo} f) = λ r.
    let e : bound (s ++ (44 ∷ 125 ∷ r)) ≡ yes lo (44 ∷ 125 ∷ r) = bound_complete f (44 ∷ 125 ∷ r) refl in
    rw (append_assoc, e)
limits_complete (between {s = s} {u = u} {lo = lo} {hi = hi} f g) = λ r.
    let e : bound (s ++ (44 ∷ (u ++ (125 ∷ r)))) ≡ yes lo (44 ∷ (u ++ (125 ∷ r))) = bound_complete f (44 ∷ (u ++ (125 ∷ r))) refl in
    let k = upper_complete g r in
    rw (append_assoc, e) (rw k)
