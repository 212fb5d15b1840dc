-- What the list after each round of a star holds: compositions of inner zones, and it covers all that are not too long.
use Rattle.std.specs.Prelude.{Some}
use mathlib.Core.Path.{◌≡◌, sym}
use mathlib.Core.Logic.{⊎_elim}
use mathlib.Core.List.Memᴰ
use mathlib.Core.List.{List, Memᴰ}
use Prim.Native.Nat.{ℕ, suc, ◌≤◌}
use native.Mathlib.Omega.{arith}
use Rattle.zone.specs.declared.Zone.{Zone}
use Rattle.zone.specs.Zone.{compose, Proper}
use Rattle.zone.proofs.Laws.{contains_refl, compose_mono, proper_compose}
use Rattle.pairs.specs.Pairs.{pairs}
use Rattle.pairs.specs.declared.Operation.TheVariants.{Compose}
use Rattle.star.specs.Star.{value, Rounds}
use Rattle.list.specs.Members.{AllProper, Covered}
use Rattle.list.proofs.Coverage.{Puts, covered_within, puts_mem, puts_keep, puts_new}
use Rattle.pairs.proofs.Pairs.{pairs_mem, mem_pairs}
use Rattle.star.proofs.Rounds.{After, After.begin, After.turn, round_puts, after_proper, rounds_end}

-- x is the composition, from the left, of j inner zones
pub data Composed (inner : List Zone) : ℕ → Zone → Type 0 where
  single : {z : Zone} → Memᴰ z inner → Composed inner 1 z
  extend : {j : ℕ} {p w x : Zone} → Composed inner j p → Memᴰ w inner → compose p w ≡ Some x → Composed inner (suc j) x

some : {inner : List Zone} {j : ℕ} {x : Zone} → Composed inner j x → 1 ≤ j
some (single m) = omega arith
some (extend o m e) = omega arith

-- the list after k rounds: its zones are compositions of at most k + 1 inner zones, and it covers every such composition
pub record Reached (inner : List Zone) (k : ℕ) (L : List Zone) : Type 0 where
  pub made : (y : Zone) → Memᴰ y L → (j : ℕ) × Composed inner j y × (j ≤ suc k)
  pub covers : (j : ℕ) (x : Zone) → Composed inner j x → j ≤ suc k → Covered x L

module _ {from to : ℕ} {inner : List Zone} (proper : AllProper from to inner) where
  pub composed_proper : {j : ℕ} {x : Zone} → Composed inner j x → Proper from to x
  composed_proper (single {z} m) = proper z m
  composed_proper (extend {w = w} o m e) = proper_compose (composed_proper o) (proper w m) e

  -- composition is monotone on the left: where p lies inside a zone of L, and K covers the compositions of L, K covers those of p
  pub step : {j : ℕ} {p w x : Zone} {L K : List Zone} → Composed inner j p → Memᴰ w inner → compose p w ≡ Some x → Covered p L → AllProper from to L
      → ((v : Zone) → Memᴰ (Some v) (pairs Compose L inner) → Covered v K) → Covered x K
  step {w = w} {x = x} o m e c g f =
      let k = compose_mono (composed_proper o).tight (g c.0 c.1).tight (proper w m).tight c.2 e in
      covered_within x k.0 k.2 (f k.0 (Memᴰ.cast (sym k.1) (mem_pairs Compose c.1 m)))

  round_reached : {k : ℕ} {L M : List Zone} → AllProper from to L → Reached inner k L → Puts (pairs Compose L inner) L M → Reached inner (suc k) M
  round_reached {k} {L} {M} g I p = record { made = λ y m. ⊎_elim (old y) (new y) (puts_mem p m); covers = covers }
    where
      old : (y : Zone) → Memᴰ y L → (j : ℕ) × Composed inner j y × (j ≤ suc (suc k))
      old y m = let h = I.made y m in (h.0, h.1, let b = h.2 in omega arith)

      new : (y : Zone) → Memᴰ (Some y) (pairs Compose L inner) → (j : ℕ) × Composed inner j y × (j ≤ suc (suc k))
      new y m =
          let q = pairs_mem Compose L inner m in
          let h = I.made q.0 q.2 in
          (suc h.0, extend h.1 q.3 q.4, let b = h.2 in omega arith)

      covers : (j : ℕ) (x : Zone) → Composed inner j x → j ≤ suc (suc k) → Covered x M
      covers _ x (single m) h = puts_keep p x (I.covers 1 x (single m) (omega arith))
      covers _ x (extend {j} {p = a} o m e) h = step o m e (I.covers j a o (omega arith)) g (puts_new p)

  -- so it is after each round
  pub after_reached : {k : ℕ} {L : List Zone} → After inner k L → Reached inner k L
  after_reached begin = record { made = λ y m. (1, single m, omega arith); covers = covers }
    where
      covers : (j : ℕ) (x : Zone) → Composed inner j x → j ≤ 1 → Covered x inner
      covers _ x (single m) h = (x, m, contains_refl x)
      covers _ x (extend o m e) h = absurd (let p = some o in omega arith)
  after_reached (turn {L = L} a e _) = round_reached (after_proper proper a) (after_reached a) (round_puts inner L e)

  -- a list that covers the inner zones and that a round does not change covers every composition, of however many
  closed : {L : List Zone} → AllProper from to L → ((z : Zone) → Memᴰ z inner → Covered z L) → Puts (pairs Compose L inner) L L → {j : ℕ} {x : Zone} → Composed inner j x → Covered x L
  closed g c p (single {z} m) = c z m
  closed g c p (extend o m e) = step o m e (closed g c p o) g (puts_new p)

  -- ---- the last list: compositions of at most r inner zones, r the rounds, and it covers every composition

  module _ {r : ℕ} {F : List Zone} (t : Rounds inner inner (value F r)) where
    last_proper : AllProper from to F
    last_proper = after_proper proper (rounds_end t).1

    pub last_made : (x : Zone) → Memᴰ x F → (j : ℕ) × Composed inner j x × (j ≤ r)
    last_made x m =
        let b = rounds_end t in
        let c = (after_reached b.1).made x m in
        (c.0, c.1, let q = b.2 in let h = c.2 in omega arith)

    pub last_covers : {j : ℕ} {x : Zone} → Composed inner j x → Covered x F
    last_covers o =
        let b = rounds_end t in
        closed last_proper (λ z m. (after_reached b.1).covers 1 z (single m) (omega arith)) (round_puts inner F b.3) o
