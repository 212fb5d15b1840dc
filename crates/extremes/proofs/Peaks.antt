-- The ends that are put together from a list of tight zones are those of its stretches from the tick.
use Rattle.std.specs.Prelude.{Option, Some, None}
use mathlib.Core.Path.{◌≡◌, refl, sym, subst}
use mathlib.Core.Bool.{Bool, true, false, cond}
use mathlib.Core.Logic.{◌↔◌, ◌⊎◌, inl, inr, ⊎_map, ⊎_elim}
use mathlib.Core.List.Memᴰ.{cases_cons}
use mathlib.Core.List.Memᴰ.{head}
use mathlib.Core.List.Memᴰ.{not-nil}
use mathlib.Core.List.Memᴰ.{tail}
use mathlib.Core.List.{List, [], ◌∷◌, Memᴰ}
use Prim.Native.Nat.{ℕ, ◌<◌}
use native.Mathlib.Omega.{arith}
use lib.Dec.{T}
use lib.IntN.{pos, ◌-ℤ◌, ◌*ℤ◌}
use Rattle.limit.specs.Time.{Time, origin, at_tick, difference, scaled, ◌≤ᵀ◌, ◌<ᵀ◌, ◌≈ᵀ◌}
use Rattle.limit.specs.declared.Limit.{Limit}
use Rattle.limit.specs.declared.Limit.TheVariants.{AtMost, Below}
use Rattle.limit.specs.Limit.{◌≤ᴸ◌, at_most, greater}
use Rattle.limit.proofs.Times.{≤_trans, <-≤, ≈-≤, ≤-≈, ≈-refl, ≈-sym, ≈-trans}
use Rattle.limit.proofs.Strict.{not_both}
use Rattle.limit.proofs.Common.{within_widen}
use Rattle.limit.proofs.Order as order
use Rattle.zone.specs.declared.Zone.{Zone}
use Rattle.zone.specs.Zone.{In, InMaybe, Tight, TightMaybe, Side, on-end, on-nend, limit, upper, lower, Keeps, compose, diagonal}
use Rattle.zone.proofs.Sharp.{on}
use Rattle.zone.proofs.Fine.{multiple}
use Rattle.zone.proofs.Laws.{attained, approached, compose_members, compose_tight, diagonal_members, proper_diagonal, in_same}
use Rattle.list.specs.Members.{Lies}
use Rattle.list.proofs.Members.{lies}
use Rattle.extremes.specs.declared.Seen.{Seen}
use Rattle.extremes.specs.Ends.{tick_of, At, EndsAs, EndsAs.none, EndsAs.some}
use Rattle.extremes.specs.Steps.{see, latest, earliest, told}
use Rattle.extremes.proofs.Each.{see_each}
use Rattle.extremes.proofs.Limits.{end_bound, end_below, end_attained, end_near, nend_bound, nend_below, nend_attained, nend_low, nend_near}

-- ---- the greatest limit of the stretches S on side k

-- they come as near to the limit as can be: reached, it is attained; not reached, it is approached closer than any fraction
abbrev Near : (Time → Time → Type 0) → Side → Limit → Type 0
Near S k (AtMost v) = (x : Time) × (y : Time) × S x y × (difference (upper origin k x y) (lower origin k x y) ≡ scaled v (upper origin k x y) (lower origin k x y))
Near S k (Below v) = (n : ℕ) → 0 < n → (x : Time) × (y : Time) × S x y × ¬ Keeps k (AtMost (v *ℤ pos n -ℤ pos 1)) (multiple n x) (multiple n y)

near_more : {S R : Time → Time → Type 0} (k : Side) (l : Limit) → ((x y : Time) → S x y → R x y) → Near S k l → Near R k l
near_more k (AtMost v) f h = (h.0, h.1, f h.0 h.1 h.2, h.3)
near_more k (Below v) f h = λ n p. let c = h n p in (c.0, c.1, f c.0 c.1 c.2, c.3)

record Peak (S : Time → Time → Type 0) (k : Side) (l : Limit) : Type 0 where
  bound : (x y : Time) → S x y → Keeps k l x y
  near : Near S k l

-- of a tight zone it is the zone's own
peak_zone : {z : Zone} → Tight z → (k : Side) → Peak (In z) k (limit z k)
peak_zone {z} t k = record { bound = λ x y h. on h k; near = go (limit z k) refl }
  where
    go : (l : Limit) → limit z k ≡ l → Near (In z) k l
    go (AtMost v) e = attained t k v e
    go (Below v) e = λ n p. approached n p t k v e

module _ {S R : Time → Time → Type 0} where
  peak_same : {k : Side} {l : Limit} → ((x y : Time) → S x y ↔ R x y) → Peak S k l → Peak R k l
  peak_same {k} {l} f p = record { bound = λ x y h. p.bound x y ((f x y).1 h); near = near_more k l (λ x y. (f x y).0) p.near }

  -- of both together it is the greater
  peak_both : {k : Side} (l m : Limit) → Peak S k l → Peak R k m → Peak (λ x y. S x y ⊎ R x y) k (greater l m)
  unfolding greater
  peak_both {k} l m p q = go (at_most l m) refl
    where
      keeps : {a b : Limit} → a ≤ᴸ b → (x y : Time) → Keeps k a x y → Keeps k b x y
      keeps h x y i = within_widen (upper origin k x y) (lower origin k x y) h i

      go : (t : Bool) → at_most l m ≡ t → Peak (λ x y. S x y ⊎ R x y) k (cond t m l)
      go true e =
          let h : l ≤ᴸ m = record { le = subst T (sym e) tt } in
          record { bound = λ x y. ⊎_elim (λ i. keeps h x y (p.bound x y i)) (q.bound x y); near = near_more k m (λ x y. inr) q.near }
      go false e =
          let h : m ≤ᴸ l = order.not≤ (λ i. subst T e i.le) in
          record { bound = λ x y. ⊎_elim (p.bound x y) (λ i. keeps h x y (q.bound x y i)); near = near_more k l (λ x y. inl) p.near }

-- ---- what is seen

-- there is no stretch where nothing is seen; else the limits are the greatest of the stretches S
abbrev Sees : (Time → Time → Type 0) → Option Seen → Type 0
Sees S None = (x y : Time) → ¬ S x y
Sees S (Some s) = Peak S on-end s.end × Peak S on-nend s.nend

sees_same : {S R : Time → Time → Type 0} (seen : Option Seen) → ((x y : Time) → S x y ↔ R x y) → Sees S seen → Sees R seen
sees_same None f h = λ x y r. h x y ((f x y).1 r)
sees_same (Some s) f h = (peak_same f h.0, peak_same f h.1)

-- One answer more: what was seen, and its members.
see_sees : (S : Time → Time → Type 0) (seen : Option Seen) (r : Option Zone) → Sees S seen → TightMaybe r → Sees (λ x y. S x y ⊎ InMaybe r x y) (see seen r)
see_sees S seen None h t = sees_same seen (λ x y. (inl, ⊎_elim (λ i. i) (λ i. absurd i))) h
see_sees S None (Some z) h t =
    let f : (x y : Time) → In z x y ↔ (S x y ⊎ In z x y) = λ x y. (inr, ⊎_elim (λ i. absurd (h x y i)) (λ i. i)) in
    (peak_same f (peak_zone t on-end), peak_same f (peak_zone t on-nend))
see_sees S (Some s) (Some z) h t = (peak_both s.end z.end h.0 (peak_zone t on-end), peak_both s.nend z.nend h.1 (peak_zone t on-nend))

-- ---- the stretches from tick s

abbrev From : ℕ → List Zone → Time → Time → Type 0
From s L x y = (x ≈ᵀ at_tick s) × Lies L (at_tick s) y

-- The point at tick s composed with a tight zone holds exactly the zone's stretches from s.
from_members : (s : ℕ) {z : Zone} → Tight z → (x y : Time) → InMaybe (compose (diagonal s s) z) x y ↔ ((x ≈ᵀ at_tick s) × In z (at_tick s) y)
from_members s {z} t x y =
    let c = compose_members (proper_diagonal s s (omega arith)).tight t x y in (
      λ i. let k = c.0 i in
          let m = (diagonal_members s s x k.0).0 k.1 in
          let a = ≤-≈ (≤_trans (≈-≤ m.1).0 m.2) m.0 in
          (a, in_same (≈-trans (≈-sym m.1) a) (≈-refl y) k.2),
      λ h. c.1 (at_tick s, (diagonal_members s s x (at_tick s)).1 ((≈-≤ h.0).1, h.0, (≈-≤ (≈-refl (at_tick s))).0), h.1),
    )

-- After each listed zone: what was seen before, and the list's stretches from tick s.
each_sees : (s : ℕ) (L : List Zone) (S : Time → Time → Type 0) (seen : Option Seen) → Sees S seen → ((z : Zone) → Memᴰ z L → Tight z) → Sees (λ x y. S x y ⊎ From s L x y) (see_each s seen L)
unfolding see_each
each_sees s [] S seen h t = sees_same seen (λ x y. (inl, ⊎_elim (λ i. i) (λ i. absurd (not-nil i.1.among)))) h
each_sees s (z ∷ L) S seen h t =
    let k : Tight z = t z (head refl) in
    let g = see_sees S seen (compose (diagonal s s) z) h (compose_tight (proper_diagonal s s (omega arith)).tight k) in
    let i = each_sees s L (λ x y. S x y ⊎ InMaybe (compose (diagonal s s) z) x y) (see seen (compose (diagonal s s) z)) g (λ w m. t w (tail m)) in
    sees_same (see_each s (see seen (compose (diagonal s s) z)) L) (λ x y. split s z L S k x y) i
  where
    split : (s : ℕ) (z : Zone) (L : List Zone) (S : Time → Time → Type 0) → Tight z → (x y : Time)
        → ((S x y ⊎ InMaybe (compose (diagonal s s) z) x y) ⊎ From s L x y) ↔ (S x y ⊎ From s (z ∷ L) x y)
    split s z L S k x y =
        let m = from_members s k x y in (
          ⊎_elim (⊎_map (λ i. i) (λ i. let j = m.0 i in (j.0, lies (head refl) j.1))) (λ i. inr (i.0, lies (tail i.1.among) i.1.member)),
          ⊎_elim (λ i. inl (inl i))
              (λ i. ⊎_elim (λ e. inl (inr (m.1 (i.0, subst (λ (w : Zone). In w (at_tick s) y) e i.1.member)))) (λ n. inr (i.0, lies n i.1.member)) (cases_cons i.1.among)),
        )

-- ---- the ends

not_at : {x y : Time} → x <ᵀ y → ¬ (x ≈ᵀ y)
not_at h e = not_both h (≈-≤ e).1

module _ (s : ℕ) (L : List Zone) where
  abbrev F : Time → Type 0
  F y = Lies L (at_tick s) y

  moved : {y u : Time} → y ≈ᵀ u → F y → F u
  moved e l = lies l.among (in_same (≈-refl (at_tick s)) e l.member)

  from : (y : Time) → F y → From s L (at_tick s) y
  from y f = (≈-refl (at_tick s), f)

  latest_at : (l : Limit) → Peak (From s L) on-end l → At F (latest l) × ((y : Time) → F y → y ≤ᵀ at_tick (tick_of (latest l)))
  latest_at (AtMost v) p =
      let c = p.near in (moved (end_attained v c.1 c.3) c.2.1, λ y f. end_bound v y (p.bound (at_tick s) y (from y f)))
  latest_at (Below v) p =
      let under : (y : Time) → F y → y <ᵀ at_tick (tick_of (latest (Below v))) = λ y f. end_below v y (p.bound (at_tick s) y (from y f)) in (
        (
          λ e h. let c = p.near e.den e.some in (c.1, c.2.1, end_near v c.1 e h (p.bound (at_tick s) c.1 (from c.1 c.2.1)) c.3),
          λ y e f. not_at (under y f) e,
        ),
        λ y f. <-≤ (under y f),
      )

  earliest_at : (l : Limit) → Peak (From s L) on-nend l → At F (earliest l) × ((y : Time) → F y → at_tick (tick_of (earliest l)) ≤ᵀ y)
  earliest_at (AtMost v) p =
      let c = p.near in (moved (nend_attained v c.1 c.3) c.2.1, λ y f. nend_bound v y (p.bound (at_tick s) y (from y f)))
  earliest_at (Below v) p =
      let o = p.near 1 (omega arith) in
      let z = nend_low v o.1 o.3 in
      let over : (y : Time) → F y → at_tick (tick_of (earliest (Below v))) <ᵀ y = λ y f. nend_below v y z (p.bound (at_tick s) y (from y f)) in (
        (
          λ e h. let c = p.near e.den e.some in (c.1, c.2.1, nend_near v c.1 e z h (p.bound (at_tick s) c.1 (from c.1 c.2.1)) c.3),
          λ y e f. not_at (over y f) (≈-sym e),
        ),
        λ y f. <-≤ (over y f),
      )

  sees_ends : (seen : Option Seen) → Sees (From s L) seen → EndsAs F (told seen)
  sees_ends None h = none (λ y f. h (at_tick s) y (from y f))
  sees_ends (Some seen) h =
      let a = earliest_at seen.nend h.1 in
      let b = latest_at seen.end h.0 in
      some a.0 b.0 (λ y f. (a.1 y f, b.1 y f))

  -- The ends told from a list of tight zones are those of its stretches from tick s.
  pub ends_told : ((z : Zone) → Memᴰ z L → Tight z) → EndsAs F (told (see_each s None L))
  ends_told t = sees_ends (see_each s None L) (sees_same (see_each s None L) (λ x y. (⊎_elim (λ i. absurd i) (λ i. i), inr)) (each_sees s L (λ x y. ⊥) None (λ x y i. i) t))
