-- What an evaluator relies on: planted nodes have planted operands, with less depth left, and ranges in order.
use Rattle.std.proofs.Common.{Option, Some, None}
use mathlib.Core.Path.{◌≡◌, refl}
use mathlib.Core.List.Memᴰ
use mathlib.Core.List.{List, ◌++◌, Memᴰ}
use mathlib.Core.Logic.{inl, inr}
use Prim.Native.Nat.{ℕ, suc, ◌-◌, ◌<◌, ◌≤◌, max}
use native.Mathlib.Omega.{arith}
use Rattle.expression.specs.declared.Range.{Range}
use Rattle.expression.specs.declared.End.{End}
use Rattle.expression.specs.declared.Node.{Node}
use Rattle.expression.specs.declared.Node.TheVariants.{Epsilon, Literal, Infix, Applied}
use Rattle.expression.specs.Expression.{Expression, epsilon, literal, join, Star, Band, Absence, unary, depth, letters, ranges}
use Rattle.expression.specs.Refusal.{figure, Wrong, wrong_letter, wrong_range, too_deep, Accepted}
use Rattle.expression.specs.Stored.{
  node_at,
  Stored,
  stored_epsilon,
  stored_literal,
  stored_join,
  stored_unary,
}
use Rattle.expression.specs.Planted.{Planted, Right}

-- The root of an accepted text is planted, with a depth of 16 left.
pub root_planted : {text ns : List ℕ} {channels n : ℕ} {e : Expression} → Accepted text channels e → Stored ns n e → Planted ns channels n 16 e
root_planted {channels = channels} {e = e} p s =
    let deep : 16 < depth e → ⊥ = λ h. p.none 8 (too_deep p.form h) in
    record {
      stored = s;
      shallow = omega arith;
      known = λ k m. let a : channels ≤ k → ⊥ = λ h. p.none 6 (wrong_letter p.form m h) in omega arith;
      right = λ r m w. p.none 7 (wrong_range p.form m w);
    }

depth_some : (e : Expression) → 0 < depth e
unfolding depth
depth_some epsilon = omega arith
depth_some (literal s k) = omega arith
depth_some (join j e f) = omega arith
depth_some (unary u e) = omega arith

-- Where a node is planted, some depth is left.
pub planted_some : {ns : List ℕ} {channels n d : ℕ} {e : Expression} → Planted ns channels n d e → 0 < d
planted_some {e = e} p = omega (arith, p.shallow, depth_some e)

-- what a node says of its expression, its operands being no deeper than d
abbrev pub Operands : List ℕ → ℕ → ℕ → Expression → Node → Type 0
Operands ns channels d e Epsilon = e ≡ epsilon
Operands ns channels d e (Literal s k) = (e ≡ literal s k) × (k < channels)
Operands ns channels d e (Infix j i k) = (f : Expression) × (g : Expression) × (e ≡ join j f g) × Planted ns channels i d f × Planted ns channels k d g
Operands ns channels d e (Applied u i) = (f : Expression) × (e ≡ unary u f) × Right u × Planted ns channels i d f

-- one operand, and two
one : {ns : List ℕ} {channels i d : ℕ} (f : Expression) → Stored ns i f → suc (depth f) ≤ d → ((k : ℕ) → Memᴰ k (letters f) → k < channels)
    → ((r : Range) → Memᴰ r (ranges f) → Wrong r → ⊥) → Planted ns channels i (d - 1) f
one f s h k r = record { stored = s; shallow = omega arith; known = k; right = r }

two : {ns : List ℕ} {channels i j d : ℕ} (f g : Expression) → Stored ns i f → Stored ns j g → suc (max (depth f) (depth g)) ≤ d
    → ((k : ℕ) → Memᴰ k (letters f ++ letters g) → k < channels) → ((r : Range) → Memᴰ r (ranges f ++ ranges g) → Wrong r → ⊥)
    → Planted ns channels i (d - 1) f × Planted ns channels j (d - 1) g
two f g s t h k r = (
  one f s (omega arith) (λ c m. k c (Memᴰ.append_left (letters g) m)) (λ c m. r c (Memᴰ.append_left (ranges g) m)),
  one g t (omega arith) (λ c m. k c (Memᴰ.append_right (letters f) m)) (λ c m. r c (Memᴰ.append_right (ranges f) m)),
)

made : {ns : List ℕ} {channels n d : ℕ} {e : Expression} → Stored ns n e → depth e ≤ d → ((k : ℕ) → Memᴰ k (letters e) → k < channels)
    → ((r : Range) → Memᴰ r (ranges e) → Wrong r → ⊥) → Operands ns channels (d - 1) e (node_at ns n)
unfolding depth letters ranges
made (stored_epsilon w) h k r = rw w refl
made (stored_literal w) h k r = rw w (refl, k _ (Memᴰ.head refl))
made (stored_join {e = f} {f = g} w a b x y) h k r = let t = two f g x y h k r in rw w (f, g, refl, t.0, t.1)
made (stored_unary {u = Star} {e = f} w a x) h k r = rw w (f, refl, tt, one f x h k r)
made (stored_unary {u = Band q} {e = f} w a x) h k r = rw w (f, refl, r q (Memᴰ.head refl), one f x h k (λ c m. r c (Memᴰ.tail m)))
made (stored_unary {u = Absence} {e = f} w a x) h k r = rw w (f, refl, tt, one f x h k r)

-- The operands of a planted node are planted, with a depth of one less left.
pub operands : {ns : List ℕ} {channels n d : ℕ} {e : Expression} → Planted ns channels n d e → Operands ns channels (d - 1) e (node_at ns n)
operands p = made p.stored p.shallow p.known p.right

-- the bounds of a range that is not wrong
abbrev pub InOrder : ℕ → Option End → Type 0
InOrder lo None = Unit {0}
InOrder lo (Some hi) = (lo ≤ figure hi) × (figure hi ≤ 1000000)

-- A range that is not wrong has bounds of at most 1,000,000, in order.
pub right_range : (lo : End) (hi : Option End) → (Wrong (record { lo = lo; hi = hi }) → ⊥) → (figure lo ≤ 1000000) × InOrder (figure lo) hi
right_range lo None w = let a : 1000000 < figure lo → ⊥ = λ h. w (inl h) in (omega arith, tt)
right_range lo (Some hi) w =
    let a : 1000000 < figure lo → ⊥ = λ h. w (inl h) in
    let b : 1000000 < figure hi → ⊥ = λ h. w (inr (inl h)) in
    let c : figure hi < figure lo → ⊥ = λ h. w (inr (inr (inl h))) in
    (omega arith, (omega arith, omega arith))
