-- The rounds of a star: the list after each of them, that the rounds from there on are the rest of the whole, and that nothing is left open.
use Rattle.std.specs.Prelude.{Some}
use mathlib.Core.Path.{◌≡◌, refl, ap, subst}
use mathlib.Core.List.{List, [], ◌∷◌}
use Prim.Native.Nat.{ℕ, suc, ◌+◌, ◌≤◌}
use native.Mathlib.Omega.{arith}
use lib.ListN.{length}
use Rattle.zone.specs.declared.Zone.{Zone}
use Rattle.zone.proofs.Laws.{proper_compose}
use Rattle.list.specs.Insert as puts
use Rattle.list.specs.Insert.{capacity, listed, insert_each}
use Rattle.pairs.specs.Pairs.{pairs}
use Rattle.pairs.specs.declared.Operation.TheVariants.{Compose}
use Rattle.star.specs.Star.{round, Value, value, overflow, begun, spent, with_rounds, Rounds, Rounds.last, Rounds.more, Rounds.overflows, Star, Star.closed, Star.diagonal_overflows, Star.round_overflows}
use Rattle.purse.specs.Purse.{Exceeding}
use Rattle.purse.proofs.Values.{begun_with, spent_with}
use Rattle.list.specs.Members.{AllProper}
use Rattle.list.proofs.Antichain.{Antichain}
use Rattle.list.proofs.Coverage.{Puts, puts, puts_proper, puts_antichain, puts_length, clash}
use Rattle.pairs.proofs.Pairs.{pairs_mem}

-- L is the list after k rounds that each changed something: what the loop that makes the rounds knows
pub data After (inner : List Zone) : ℕ → List Zone → Type 0 where
  begin : After inner 0 inner
  turn : {k : ℕ} {L M : List Zone} → After inner k L → round inner L ≡ listed M → ¬ (M ≡ L) → After inner (suc k) M

-- a round is a list of puts
pub round_puts : (inner L : List Zone) {M : List Zone} → round inner L ≡ listed M → Puts (pairs Compose L inner) L M
round_puts inner L e = puts (pairs Compose L inner) L (unfold round in e)

-- after each round the zones are tight and inside from..to ..
pub after_proper : {from to : ℕ} {inner : List Zone} → AllProper from to inner → {k : ℕ} {L : List Zone} → After inner k L → AllProper from to L
after_proper h begin = h
after_proper {inner} h (turn {L = L} a e _) =
    let below = after_proper h a in
    puts_proper (round_puts inner L e) below (λ z m. let p = pairs_mem Compose L inner m in proper_compose (below p.0 p.2) (h p.1 p.3) p.4)

-- .. none lies inside another ..
pub after_antichain : {inner : List Zone} → Antichain inner → {k : ℕ} {L : List Zone} → After inner k L → Antichain L
after_antichain h begin = h
after_antichain {inner} h (turn {L = L} a e _) = puts_antichain (round_puts inner L e) (after_antichain h a)

-- .. and there are no more than 128
pub after_length : {inner : List Zone} → length inner ≤ capacity → {k : ℕ} {L : List Zone} → After inner k L → length L ≤ capacity
after_length h begin = h
after_length {inner} h (turn {L = L} a e _) = puts_length (round_puts inner L e) (after_length h a)

-- ---- the rounds so far and the rest are the whole

same_value : {L : List Zone} {r s : ℕ} → r ≡ s → value L r ≡ value L s
same_value {L} e = ap (value L) e

same_overflow : {a b c d : ℕ} → a ≡ c → b ≡ d → overflow a b ≡ overflow c d
same_overflow p q = λ i. overflow (p i) (q i)

no_rounds : (v : Value) → v ≡ with_rounds 0 v
no_rounds (value L r) = same_value (omega arith)
no_rounds (overflow b f) = same_overflow (omega arith) (omega arith)

one_before : (k : ℕ) (v : Value) → with_rounds k (with_rounds 1 v) ≡ with_rounds (suc k) v
one_before k (value L r) = same_value (omega arith)
one_before k (overflow b f) = same_overflow (omega arith) (omega arith)

whole : {inner : List Zone} {k : ℕ} {L : List Zone} {v : Value} → After inner k L → Rounds inner L v → Rounds inner inner (with_rounds k v)
whole {inner} {v = v} begin t = subst (Rounds inner inner) (no_rounds v) t
whole {inner} {v = v} (turn {k} a e n) t = subst (Rounds inner inner) (one_before k v) (whole a (more e n t))

-- a round that changes nothing is the last
pub after_last : {inner : List Zone} {k : ℕ} {L : List Zone} → After inner k L → round inner L ≡ listed L → Rounds inner inner (value L (suc k))
after_last {inner} a e = subst (Rounds inner inner) (same_value (omega arith)) (whole a (last e))

-- a put that would leave 129 zones ends the rounds, in one that is begun and not finished
pub after_overflow : {inner : List Zone} {k : ℕ} {L : List Zone} → After inner k L → round inner L ≡ puts.overflow → Rounds inner inner (overflow (suc k) k)
after_overflow {inner} a e = subst (Rounds inner inner) (same_overflow (omega arith) (omega arith)) (whole a (overflows e))

-- rounds are begun ..
begun_some : {inner L : List Zone} {v : Value} → Rounds inner L v → 1 ≤ begun v
begun_some (last e) = omega arith
begun_some (more {v = v} e n t) = omega (arith, begun_with 1 v)
begun_some (overflows e) = omega arith

-- .. so where rounds are to be made after k of them, more than k are begun in all
pub after_more : {inner : List Zone} {k : ℕ} {L : List Zone} {v : Value} → After inner k L → Rounds inner L v → Exceeding (Rounds inner inner) k
after_more {k = k} {v = v} a t = record { whole = with_rounds k v; means = whole a t; beyond = omega (arith, begun_with k v, begun_some t) }

-- ---- where the rounds end

-- of a list it is the one after n rounds, all but the last, which changes nothing; n rounds changed something before one that overflows
abbrev Ends : List Zone → ℕ → Value → Type 0
Ends inner k (value F r) = (n : ℕ) × After inner n F × (suc n ≡ k + r) × (round inner F ≡ listed F)
Ends inner k (overflow b f) = (n : ℕ) × (F : List Zone) × After inner n F × (suc n ≡ k + b)

ends : {inner : List Zone} {k : ℕ} {L : List Zone} {v : Value} → After inner k L → Rounds inner L v → Ends inner k v
ends {k = k} a (last e) = (k, a, omega arith, e)
ends {inner} {k} a (more {v = v} e n t) = go v (ends {k = suc k} (turn a e n) t)
  where
    go : (v : Value) → Ends inner (suc k) v → Ends inner k (with_rounds 1 v)
    go (value F r) h = (h.0, h.1, let q = h.2 in omega arith, h.3)
    go (overflow b f) h = (h.0, h.1, h.2, let q = h.3 in omega arith)
ends {k = k} {L = L} a (overflows e) = (k, L, a, omega arith)

-- r rounds that finish: all but the last changed something, and the last one nothing
pub rounds_end : {inner : List Zone} {r : ℕ} {F : List Zone} → Rounds inner inner (value F r) → (n : ℕ) × After inner n F × (suc n ≡ r) × (round inner F ≡ listed F)
rounds_end t = let b = ends begin t in (b.0, b.1, let q = b.2 in omega arith, b.3)

-- rounds begun up to one that overflows: all but that one changed something
pub rounds_overflow : {inner : List Zone} {b f : ℕ} → Rounds inner inner (overflow b f) → (n : ℕ) × (F : List Zone) × After inner n F × (suc n ≡ b)
rounds_overflow t = let b = ends begin t in (b.0, b.1, b.2, let q = b.3 in omega arith)

-- ---- all rounds begun are finished, but one at most

pub rounds_almost : {inner L : List Zone} {v : Value} → Rounds inner L v → begun v ≤ suc (spent v)
rounds_almost (last e) = omega arith
rounds_almost (more {v = v} e n t) = let h = rounds_almost t in let a = begun_with 1 v in let b = spent_with 1 v in omega arith
rounds_almost (overflows e) = omega arith

pub star_almost : {inner : List Zone} {diagonal : Zone} {v : Value} → Star inner diagonal v → begun v ≤ suc (spent v)
star_almost (closed t e) = omega arith
star_almost (diagonal_overflows t e) = omega arith
star_almost (round_overflows t) = rounds_almost t

-- a finished star: its rounds, and the diagonal put into their last list
pub star_rounds : {inner : List Zone} {diagonal : Zone} {r : ℕ} {G : List Zone} → Star inner diagonal (value G r) → (F : List Zone) × Rounds inner inner (value F r) × (insert_each (Some diagonal ∷ []) F ≡ listed G)
star_rounds (closed {F = F} t e) = (F, t, e)

-- ---- no more than one outcome

-- list and inner list decide how the rounds come out ..
pub rounds_unique : {inner L : List Zone} {v w : Value} → Rounds inner L v → Rounds inner L w → v ≡ w
rounds_unique (last e) (last f) = refl
rounds_unique (last e) (more f n t) = absurd (n (cc))
rounds_unique (last e) (overflows f) = clash (cc)
rounds_unique (more e n t) (last f) = absurd (n (cc))
rounds_unique {inner} (more {M = M} e n t) (more {M = N} {v = q} f m u) = ap (with_rounds 1) (rounds_unique t (let s : N ≡ M = cc in subst (λ (K : List Zone). Rounds inner K q) s u))
rounds_unique (more e n t) (overflows f) = clash (cc)
rounds_unique (overflows e) (last f) = clash (cc)
rounds_unique (overflows e) (more f n t) = clash (cc)
rounds_unique (overflows e) (overflows f) = refl

-- .. and so, with the diagonal, the star
pub star_unique : {inner : List Zone} {diagonal : Zone} {v w : Value} → Star inner diagonal v → Star inner diagonal w → v ≡ w
star_unique (closed t e) (closed u f) = let q = rounds_unique t u in cc
star_unique (closed t e) (diagonal_overflows u f) = let q = rounds_unique t u in clash (cc)
star_unique (closed t e) (round_overflows u) = let q = rounds_unique t u in clash (cc)
star_unique (diagonal_overflows t e) (closed u f) = let q = rounds_unique t u in clash (cc)
star_unique (diagonal_overflows t e) (diagonal_overflows u f) = let q = rounds_unique t u in cc
star_unique (diagonal_overflows t e) (round_overflows u) = let q = rounds_unique t u in clash (cc)
star_unique (round_overflows t) (closed u f) = let q = rounds_unique t u in clash (cc)
star_unique (round_overflows t) (diagonal_overflows u f) = let q = rounds_unique t u in clash (cc)
star_unique (round_overflows t) (round_overflows u) = rounds_unique t u
