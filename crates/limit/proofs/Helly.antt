-- Finitely many lower and upper limits on a time, each lower one compatible with each upper one, leave room for a time.
-- It is found between the greatest lower and the least upper limit, in the middle: the denominator doubles.
use mathlib.Core.Path.{ap}
use mathlib.Core.List.{List, [], ◌∷◌}
use Prim.Native.Nat.{ℕ, ◌+◌, ◌-◌, ◌*◌, ◌≤◌, max}
use native.Mathlib.Decide.{dec_le}
use native.Mathlib.Omega.{arith}
use Rattle.limit.specs.Limit.{Limit, ◌⊕◌}
use Rattle.limit.proofs.Linear.{up, dn, un, sum_ud, sum_un}
use Rattle.limit.proofs.Common.{KeepsOver}

-- the limit on the difference to the point at/D: as a lower limit, at/D − t ≤ lim; as an upper one, t − at/D ≤ lim
pub record Edge : Type 0 where
  pub at : ℕ
  pub lim : Limit

abbrev pub All : (Edge → Type 0) → List Edge → Type 0
All P [] = Unit {0}
All P (x ∷ xs) = P x × All P xs

zip : (P Q R : Edge → Type 0) → ((x : Edge) → P x → Q x → R x) → (xs : List Edge) → All P xs → All Q xs → All R xs
zip P Q R f [] p q = tt
zip P Q R f (x ∷ xs) p q = (f x p.0 q.0, zip P Q R f xs p.1 q.1)

all : (P : Edge → Type 0) → ((x : Edge) → P x) → (xs : List Edge) → All P xs
all P f [] = tt
all P f (x ∷ xs) = (f x, all P f xs)

turn : (R : Edge → Edge → Type 0) (xs ys : List Edge) → All (λ x. All (R x) ys) xs → All (λ y. All (λ x. R x y) xs) ys
turn R [] ys h = all (λ y. All (λ x. R x y) []) (λ y. tt) ys
turn R (x ∷ xs) ys h = zip (R x) (λ y. All (λ x'. R x' y) xs) (λ y. All (λ x'. R x' y) (x ∷ xs)) (λ y p q. (p, q)) ys h.0 (turn R xs ys h.1)

-- the largest by a measure a − b that is compared by sums
module _ (a b : Edge → ℕ) (P : Edge → Type 0) where
  abbrev Top : List Edge → Type 0
  Top xs = (c : Edge) × P c × All (λ y. a y + b c ≤ a c + b y) xs

  pick : (x : Edge) (xs : List Edge) → P x → (r : Top xs) → Dec (a x + b r.0 ≤ a r.0 + b x) → Top (x ∷ xs)
  pick x xs p r (yes h) = (r.0, r.1, (h, r.2))
  pick x xs p r (no h) = (
    x,
    p,
    (
      omega arith,
      zip (λ z. a z + b r.0 ≤ a r.0 + b z) (λ z. Unit {0}) (λ z. a z + b x ≤ a x + b z) (λ z k _. omega arith) xs r.2 (all (λ z. Unit {0}) (λ z. tt) xs),
    ),
  )

  best : (x : Edge) (xs : List Edge) → P x → All P xs → Top (x ∷ xs)
  best x [] p ps = (x, p, (omega arith, tt))
  best x (y ∷ ys) p ps = let r : Top (y ∷ ys) = best y ys ps.0 ps.1 in pick x (y ∷ ys) p r (dec_le (a x + b r.0) (a r.0 + b x))

module _ (D : ℕ) where
  -- a lower limit's number is lowP − lowQ, an upper one's uppP − uppQ
  abbrev lowP : Edge → ℕ
  lowP x = x.at + dn x.lim * D

  abbrev lowQ : Edge → ℕ
  lowQ x = up x.lim * D

  abbrev uppP : Edge → ℕ
  uppP x = x.at + up x.lim * D

  abbrev uppQ : Edge → ℕ
  uppQ x = dn x.lim * D

  abbrev pub Fits : Edge → Edge → Type 0
  Fits l u = KeepsOver D (l.lim ⊕ u.lim) l.at u.at

  fits : (l u : Edge) → Fits l u → lowP l + uppQ u + max (un l.lim) (un u.lim) ≤ uppP u + lowQ l
  fits l u h = omega (arith, h.keeps, sum_un l.lim u.lim, ap (λ (n : ℕ). n * D) (sum_ud l.lim u.lim))

  abbrev pub Above : ℕ → Edge → Type 0
  Above t l = KeepsOver (2 * D) l.lim (2 * l.at) t

  abbrev pub Under : ℕ → Edge → Type 0
  Under t u = KeepsOver (2 * D) u.lim t (2 * u.at)

  pub helly : (l : Edge) (ls : List Edge) (u : Edge) (us : List Edge)
      → up l.lim * D ≤ l.at + dn l.lim * D
      → All (λ x. All (Fits x) (u ∷ us)) (l ∷ ls)
      → (t : ℕ) × All (Above t) (l ∷ ls) × All (Under t) (u ∷ us)
  helly l ls u us pl h = (
    t,
    zip (λ x. lowP x + lowQ c ≤ lowP c + lowQ x) (λ x. Fits x d) (Above t) (λ x p q. record { keeps = omega (arith, fits x d q, pc, pd) }) (l ∷ ls) hc.2 hd.1,
    zip (λ x. uppQ x + uppP d ≤ uppQ d + uppP x) (λ x. Fits c x) (Under t) (λ x p q. record { keeps = omega (arith, fits c x q, pc, pd) }) (u ∷ us) hd.2 hc.1,
  )
    where
      hc : Top lowP lowQ (λ x. All (Fits x) (u ∷ us)) (l ∷ ls)
      hc = best lowP lowQ (λ x. All (Fits x) (u ∷ us)) l ls h.0 h.1

      g : All (λ y. All (λ x. Fits x y) (l ∷ ls)) (u ∷ us)
      g = turn Fits (l ∷ ls) (u ∷ us) h

      hd : Top uppQ uppP (λ y. All (λ x. Fits x y) (l ∷ ls)) (u ∷ us)
      hd = best uppQ uppP (λ y. All (λ x. Fits x y) (l ∷ ls)) u us g.0 g.1

      c : Edge
      c = hc.0

      d : Edge
      d = hd.0

      pc : lowQ c ≤ lowP c
      pc = omega (arith, hc.2.0)

      pd : uppQ d ≤ uppP d
      pd = omega (arith, pl, fits l d hd.1.0)

      t : ℕ
      t = (lowP c + uppP d) - (lowQ c + uppQ d)
