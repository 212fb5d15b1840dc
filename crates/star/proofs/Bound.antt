-- The rounds of a star end: n inner zones of ticks from..to make at most n + (to − from) rounds, the last included. If the round after k
-- changes something, some composition q of k + 2 inner zones lies inside no shorter one. Along q each inner zone that comes again later
-- makes the composition longer by a tick or more, and each other one is the last of its kind.
use Rattle.std.specs.Prelude.{Some}
use mathlib.Core.Path.{◌≡◌, refl, sym, ap, subst, ◌∙◌}
use mathlib.Core.Logic.{◌⊎◌, inl, inr, ⊎_map, ⊎_elim}
use mathlib.Core.List.Memᴰ
use mathlib.Core.List.Memᴰ.{head}
use mathlib.Core.List.Memᴰ.{not-nil}
use mathlib.Core.List.Memᴰ.{tail}
use mathlib.Core.List.{List, [], ◌∷◌, Memᴰ, List-discrete}
use Prim.Native.Nat.{ℕ, zero, suc, ◌+◌, ◌-◌, ◌≤◌, ◌<◌}
use native.Mathlib.Omega.{arith}
use native.Mathlib.Decide.{dec_le}
use lib.Dec.{T}
use lib.ListN.{length}
use Rattle.zone.specs.declared.Zone.{Zone}
use Rattle.zone.specs.Zone.{contains, compose, Tight}
use Rattle.zone.proofs.Lengths.{Extends, span}
use Rattle.zone.proofs.Laws.{compose_mono, extends_refl, extends_step, span_longer, span_some, span_adds, span_bound, same_zone?}
use Rattle.list.specs.Insert as puts
use Rattle.list.specs.Insert.{Built, listed, insert_each}
use Rattle.pairs.specs.declared.Operation.TheVariants.{Compose}
use Rattle.star.specs.Star.{round, Value, value, overflow, begun, with_rounds, Rounds, Rounds.last, Rounds.more, Rounds.overflows, Star, Star.closed, Star.diagonal_overflows, Star.round_overflows}
use Rattle.list.specs.Members.{AllProper, Covered}
use Rattle.list.proofs.Coverage.{covered_within, puts_fresh}
use Rattle.pairs.proofs.Pairs.{pairs_mem}
use Rattle.star.proofs.Rounds.{After, After.begin, After.turn, round_puts, rounds_end, rounds_overflow}
use Rattle.star.proofs.Composed.{Composed, Composed.single, Composed.extend, Reached, composed_proper, after_reached}

-- ---- a list less one zone

abbrev Less : Zone → List Zone → Type 0
Less w R = (S : List Zone) × (suc (length S) ≡ length R) × ((z : Zone) → Memᴰ z R → (z ≡ w) ⊎ Memᴰ z S)

less : {w : Zone} {R : List Zone} → Memᴰ w R → Less w R
less {w} (head {x = a} {xs = R} e) = (R, refl, λ z m. ⊎_map (λ f. f ∙ sym e) (λ n. n) (Memᴰ.cases_cons m))
less {w} (tail {x = a} n) =
    let k = less n in
    (a ∷ k.0, ap suc k.1, λ z m. ⊎_elim (λ f. inr (head f)) (λ l. ⊎_map (λ f. f) tail (k.2 z l)) (Memᴰ.cases_cons m))

among? : (w : Zone) (K : List Zone) → Dec (Memᴰ w K)
among? w [] = no not-nil
among? w (a ∷ K) = go (same_zone? w a) (among? w K)
  where
    go : Dec (w ≡ a) → Dec (Memᴰ w K) → Dec (Memᴰ w (a ∷ K))
    go (yes e) _ = yes (head e)
    go (no n) (yes m) = yes (tail m)
    go (no n) (no k) = no (λ h. ⊎_elim n k (Memᴰ.cases_cons h))

-- ---- the way to a composition q

-- q is v composed, from the left, with r more inner zones
data Leads (inner : List Zone) (q : Zone) : ℕ → Zone → Type 0 where
  done : {v : Zone} → v ≡ q → Leads inner q 0 v
  next : {r : ℕ} {v w x : Zone} → Memᴰ w inner → compose v w ≡ Some x → Leads inner q r x → Leads inner q (suc r) v

-- on the way to q, a composition of m inner zones, w comes once more after p, which is r zones before q: the composition u there begins
-- with p, w makes it v, and q is s zones on
record Again (inner : List Zone) (m : ℕ) (q : Zone) (r : ℕ) (p w : Zone) : Type 0 where
  u : Zone
  v : Zone
  j : ℕ
  s : ℕ
  prefix : Composed inner j u
  begins : Extends p u
  gives : compose u w ≡ Some v
  leads : Leads inner q s v
  whole : suc (j + s) ≡ m
  later : s < r

module _ {from to : ℕ} {inner : List Zone} (proper : AllProper from to inner) where
  tight : {j : ℕ} {x : Zone} → Composed inner j x → Tight x
  tight o = (composed_proper proper o).tight

  inner_tight : {w : Zone} → Memᴰ w inner → Tight w
  inner_tight {w} m = (proper w m).tight

  -- where v lies inside x, what v leads to lies inside what x leads to
  leads_within : {q : Zone} {i j r : ℕ} {x v : Zone} → Composed inner i x → Composed inner j v → T (contains x v) → Leads inner q r v → (n : ℕ) × (t : Zone) × Composed inner n t × T (contains t q) × (n ≡ i + r)
  leads_within {i = i} {x = x} o g h (done e) = (i, x, o, subst (λ (k : Zone). T (contains x k)) e h, omega arith)
  leads_within {i = i} o g h (next m e t) =
      let k = compose_mono (tight g) (tight o) (inner_tight m) h e in
      let b = leads_within {i = suc i} (extend o m k.1) (extend g m e) k.2 t in
      (b.0, b.1, b.2, b.3, let f = b.4 in omega arith)

  -- q, a composition of m inner zones, lies inside none of fewer
  module _ (m : ℕ) (q : Zone) (least : (i : ℕ) (t : Zone) → Composed inner i t → i < m → ¬ T (contains t q)) where
    -- so no composition on the way to q lies inside a shorter one
    apart : {i j r : ℕ} {x v : Zone} → Composed inner i x → Composed inner j v → Leads inner q r v → i + r < m → ¬ T (contains x v)
    apart o g t h n = let b = leads_within o g n t in least b.0 b.1 b.2 (let f = b.4 in omega arith) b.3

    again_next : {r : ℕ} {p w x k : Zone} → Tight p → Tight w → compose p w ≡ Some x → Again inner m q r x k → Again inner m q (suc r) p k
    again_next gp gw e a = record { u = a.u; v = a.v; j = a.j; s = a.s; prefix = a.prefix; begins = extends_step gp gw e a.begins; gives = a.gives; leads = a.leads; whole = a.whole; later = omega arith }

    -- K: the zones that come after p. R: the inner zones that may come in p alone
    count : (K R : List Zone) {i r : ℕ} {p : Zone} → Composed inner i p → Leads inner q r p → i + r ≡ m → ((w : Zone) → Memᴰ w K → Again inner m q r p w)
        → ((z : Zone) → Memᴰ z inner → Memᴰ z K ⊎ Memᴰ z R) → i ≤ span p + length R
    count K R (single {z} mz) t e again split = go (among? z K)
      where
        go : Dec (Memᴰ z K) → 1 ≤ span z + length R
        go (yes n) =
            let a = again z n in
            let h = span_some (tight a.prefix) (inner_tight mz) a.gives (apart a.prefix (extend a.prefix mz a.gives) a.leads (let f = a.whole in omega arith)) in
            omega arith
        go (no n) = ⊎_elim (λ k. absurd (n k)) (λ k. let h = (less k).1 in omega arith) (split z mz)
    count K R {r = r} (extend {j} {p = a} {w = w} {x = p} o mw c) t e again split = go (λ S h. count (w ∷ K) S o (next mw c t) (omega arith) again' h) (among? w K)
      where
        again' : (k : Zone) → Memᴰ k (w ∷ K) → Again inner m q (suc r) a k
        again' k (head f) = record { u = a; v = p; j = j; s = r; prefix = o; begins = extends_refl a; gives = ap (compose a) f ∙ c; leads = t; whole = omega arith; later = omega arith }
        again' k (tail n) = again_next (tight o) (inner_tight mw) c (again k n)

        new : ¬ T (contains a p)
        new = apart o (extend o mw c) t (omega arith)

        go : ((S : List Zone) → ((z : Zone) → Memᴰ z inner → Memᴰ z (w ∷ K) ⊎ Memᴰ z S) → j ≤ span a + length S) → Dec (Memᴰ w K) → suc j ≤ span p + length R
        go below (yes n) =
            let b = again w n in
            let h₁ = span_some (tight o) (inner_tight mw) c new in
            let h₂ = span_adds (tight o) (inner_tight mw) c b.begins b.gives (apart (extend o mw c) (extend b.prefix mw b.gives) b.leads (let f = b.later in omega arith)) in
            let h₃ = below R (λ z mz. ⊎_map tail (λ k. k) (split z mz)) in
            omega arith
        go below (no n) = ⊎_elim (λ k. absurd (n k)) last (split w mw)
          where
            last : Memᴰ w R → suc j ≤ span p + length R
            last k =
                let s = less k in
                let h₁ = s.1 in
                let h₂ = span_longer (tight o) (inner_tight mw) c new in
                let h₃ = below s.0 (λ z mz. ⊎_elim (λ y. inl (tail y)) (λ y. ⊎_map head (λ x. x) (s.2 z y)) (split z mz)) in
                omega arith

    pub composed_bound : Composed inner m q → m ≤ length inner + (to - from)
    composed_bound o =
        let h₁ = count [] inner o (done refl) (omega arith) (λ w n. absurd (not-nil n)) (λ z n. inr n) in
        let h₂ = span_bound (composed_proper proper o) in
        omega arith

  -- ---- the bound

  -- if the round after k changes something, k + 2 is within the bound
  changed_bound : {k : ℕ} {L M : List Zone} → After inner k L → round inner L ≡ listed M → ¬ (M ≡ L) → suc (suc k) ≤ length inner + (to - from)
  changed_bound {k} {L} a e n =
      let f = puts_fresh (round_puts inner L e) n in
      let p = pairs_mem Compose L inner f.1 in
      let y = reached.made p.0 p.2 in
      go y.0 f.0 (extend y.1 p.3 p.4) y.2 f.2
    where
      reached : Reached inner k L
      reached = after_reached proper a

      go : (j : ℕ) (x : Zone) → Composed inner (suc j) x → j ≤ suc k → ¬ Covered x L → suc (suc k) ≤ length inner + (to - from)
      go j x o h c = cases (dec_le (suc j) (suc k))
        where
          cases : Dec (suc j ≤ suc k) → suc (suc k) ≤ length inner + (to - from)
          cases (yes s) = absurd (c (reached.covers (suc j) x o s))
          cases (no s) = let b = composed_bound (suc j) x (λ i t ot lt w. c (covered_within x t w (reached.covers i t ot (omega arith)))) o in omega arith

  module _ (some : from < to) where
    -- rounds that each changed something are fewer than n + (to − from): what the loop that makes the rounds ends by, and its counter's limit
    pub after_bound : {k : ℕ} {L : List Zone} → After inner k L → suc k ≤ length inner + (to - from)
    after_bound begin = omega arith
    after_bound (turn a e n) = changed_bound a e n

    -- rounds that finish are at most n + (to − from), the last included
    pub rounds_bound : {r : ℕ} {F : List Zone} → Rounds inner inner (value F r) → r ≤ length inner + (to - from)
    rounds_bound t = let b = rounds_end t in let h = after_bound b.1 in let q = b.2 in omega arith

    -- and so are rounds that are begun, also up to one that overflows
    pub star_begun : {diagonal : Zone} {v : Value} → Star inner diagonal v → begun v ≤ length inner + (to - from)
    star_begun (closed t e) = rounds_bound t
    star_begun (diagonal_overflows t e) = rounds_bound t
    star_begun (round_overflows t) = let b = rounds_overflow t in let h = after_bound b.2 in let q = b.3 in omega arith

    -- ---- so the rounds end

    exists : (left : ℕ) {k : ℕ} {L : List Zone} → After inner k L → length inner + (to - from) ≤ k + left → (v : Value) × Rounds inner L v
    exists zero a h = absurd (let b = after_bound a in omega arith)
    exists (suc left) {L = L} a h = go (round inner L) refl (λ M e n. exists left (turn a e n) (omega arith))
      where
        go : (b : Built) → round inner L ≡ b → ((M : List Zone) → round inner L ≡ listed M → ¬ (M ≡ L) → (v : Value) × Rounds inner M v) → (v : Value) × Rounds inner L v
        go puts.overflow e below = (overflow 1 0, overflows e)
        go (listed M) e below = cases (List-discrete same_zone? M L)
          where
            cases : Dec (M ≡ L) → (v : Value) × Rounds inner L v
            cases (yes q) = (value L 1, last (e ∙ ap listed q))
            cases (no n) = let t = below M e n in (with_rounds 1 t.0, more e n t.1)

    -- from the list after any of them on
    pub after_exists : {k : ℕ} {L : List Zone} → After inner k L → (v : Value) × Rounds inner L v
    after_exists a = exists (length inner + (to - from)) a (omega arith)

    -- n + (to − from) rounds are enough
    pub rounds_exist : (v : Value) × Rounds inner inner v
    rounds_exist = after_exists begin

    pub star_exists : (diagonal : Zone) → (v : Value) × Star inner diagonal v
    star_exists diagonal = go rounds_exist.0 rounds_exist.1
      where
        put : {r : ℕ} {F : List Zone} → Rounds inner inner (value F r) → (b : Built) → insert_each (Some diagonal ∷ []) F ≡ b → (v : Value) × Star inner diagonal v
        put {r} t (listed G) e = (value G r, closed t e)
        put {r} t puts.overflow e = (overflow r r, diagonal_overflows t e)

        go : (v : Value) → Rounds inner inner v → (v : Value) × Star inner diagonal v
        go (value F r) t = put t (insert_each (Some diagonal ∷ []) F) refl
        go (overflow b f) t = (overflow b f, round_overflows t)
