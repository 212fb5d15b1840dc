-- The laws of zones: what the crates above cite of them, so that none looks inside a limit. (Laws of times and of words in a buffer have
-- files of their own.) x, y and t are times num / den of any denominators.
use Rattle.std.specs.Prelude.{Option, Some, None}
use mathlib.Core.Path.{◌≡◌, refl, sym, ap, subst, ◌∙◌}
use mathlib.Core.Bool.{Bool, true, false}
use mathlib.Core.Logic.{◌↔◌}
use Prim.Native.Nat.{ℕ, zero, suc, ◌+◌, ◌-◌, ◌≤◌, ◌<◌}
use native.Mathlib.Omega.{arith}
use borrow.Author.Tests.{le-ltb}
use lib.Dec.{T}
use lib.IntN.{ℤ, pos, ◌-ℤ◌, ◌*ℤ◌}
use Rattle.signed.proofs.Integers.{arithZ, neg}
use Rattle.limit.specs.Time.{Time, origin, at_tick, difference, scaled, ◌≤ᵀ◌, ◌<ᵀ◌, ◌≈ᵀ◌}
use Rattle.limit.specs.declared.Limit.{Limit}
use Rattle.limit.specs.declared.Limit.TheVariants.{AtMost, Below}
use Rattle.limit.specs.Limit.{Within, ◌≤ᴸ◌, nought, most}
use Rattle.zone.specs.Zone.{Zone, In, InMaybe, Proper, Side, limit, upper, lower, Keeps, Loses, Tight, TightMaybe, tighten, meet, compose, contains, Includes, Stretch, across, run, diagonal, everything, band, Ranged}
use Rattle.limit.proofs.Linear.{up, dn, sum_ud}
use Rattle.limit.proofs.Order as order
use Rattle.limit.proofs.Times as times
use Rattle.zone.proofs.Closed.{Closed}
use Rattle.zone.proofs.Tighten as tightening
use Rattle.zone.proofs.Tighten.{◌⊑◌}
use Rattle.zone.proofs.Sharp.{on}
use Rattle.zone.proofs.Narrow.{member}
use Rattle.zone.proofs.Tight.{tight_is, contains-⊑, ⊑-antisym}
use Rattle.zone.proofs.Fine as fine
use Rattle.zone.proofs.Fine.{multiple}
use Rattle.zone.proofs.Means.{tighten_means, meet_means, compose_means, contains_means, run_means, diagonal_means, everything_means, band_means}
use Rattle.zone.proofs.Range.{inside_is, range, num_le}
use Rattle.zone.proofs.Lengths as lengths
use Rattle.zone.proofs.Lengths.{Extends, span, composed}

no_zone : {z : Zone} → ¬ (◌≡◌ {A = Option Zone} None (Some z))
no_zone e = let f : ◌≡◌ {A = ℕ} 0 1 = cc in omega arith

-- an answer is None, or the zone it holds
settle : (r : Option Zone) (P : Type 0) → ((z : Zone) → r ≡ Some z → P) → (r ≡ None → P) → P
settle (Some z) P f g = f z refl
settle None P f g = g refl

-- ==== 1. Tightening, of a zone whose limits include 0 ≤ start ≤ end

-- keeps exactly the members (of any zone)
pub tighten_members : (z : Zone) (x y : Time) → InMaybe (tighten z) x y ↔ In z x y
tighten_members z = (tighten_means z refl).members

-- its answer is tight
pub tighten_tight : (z : Zone) → z.nstart ≤ᴸ nought → z.nlength ≤ᴸ nought → TightMaybe (tighten z)
tighten_tight z = (tighten_means z refl).tight

-- a tight zone is unchanged
pub tighten_same : {z : Zone} → Tight z → tighten z ≡ Some z
tighten_same h = tightening.tighten_same (tight_is.0 h)

-- ==== 2. Tight

-- tight by meaning equals the closed form on limits
pub tight_closed : {z : Zone} → Tight z ↔ Closed z
tight_closed = tight_is

-- a tight zone has a member
pub tight_member : {z : Zone} → Tight z → (x : Time) × (y : Time) × In z x y
tight_member h = member (tight_is.0 h)

-- a reached limit is attained
pub attained : {z : Zone} → Tight z → (k : Side) (v : ℤ) → limit z k ≡ AtMost v
    → (x : Time) × (y : Time) × In z x y × (difference (upper origin k x y) (lower origin k x y) ≡ scaled v (upper origin k x y) (lower origin k x y))
attained h = fine.attained (tight_is.0 h)

-- one not reached is approached closer than any fraction 1 / n: n times the difference is above n × v − 1 ..
pub approached : (n : ℕ) → 0 < n → {z : Zone} → Tight z → (k : Side) (v : ℤ) → limit z k ≡ Below v
    → (x : Time) × (y : Time) × In z x y × ¬ (Keeps k (AtMost (v *ℤ pos n -ℤ pos 1)) (multiple n x) (multiple n y))
approached n p h = fine.approached n p (tight_is.0 h)

not_equal : (v : ℤ) {l : Limit} → l ≡ Below v → (x y : Time) → Within l x y → ¬ (difference x y ≡ scaled v x y)
unfolding Within
not_equal v p x y h e = let k : Within (Below v) x y = subst (λ (l : Limit). Within l x y) p h in omega (arithZ, k)

-- .. and not attained
pub not_attained : {z : Zone} (k : Side) (v : ℤ) → limit z k ≡ Below v → (x y : Time) → In z x y → ¬ (difference (upper origin k x y) (lower origin k x y) ≡ scaled v (upper origin k x y) (lower origin k x y))
not_attained k v p x y h = not_equal v p (upper origin k x y) (lower origin k x y) (on h k)

-- no limit can be lowered without losing a stretch
pub cannot_lower : {z : Zone} → Tight z → (k : Side) (m : Limit) → ¬ (limit z k ≤ᴸ m) → Loses z k m
cannot_lower h = h.sharp

-- None exactly if there is no member
pub tighten_empty : (z : Zone) → z.nstart ≤ᴸ nought → z.nlength ≤ᴸ nought → (tighten z ≡ None) ↔ ((x y : Time) → ¬ In z x y)
tighten_empty z a b = (
  λ e x y h. subst (λ (r : Option Zone). InMaybe r x y) e ((tighten_members z x y).1 h),
  λ f. settle (tighten z) (tighten z ≡ None)
      (λ t e. let m = tight_member (subst TightMaybe e (tighten_tight z a b)) in absurd (f m.0 m.1 ((tighten_members z m.0 m.1).0 (subst (λ (r : Option Zone). InMaybe r m.0 m.1) (sym e) m.2))))
      (λ e. e),
)

-- ==== 3. Meet

-- member of both, exactly
pub meet_members : (z w : Zone) (x y : Time) → InMaybe (meet z w) x y ↔ (In z x y × In w x y)
meet_members z w = (meet_means z w refl).members

-- tight, or None, where one is tight
pub meet_tight : {z : Zone} (w : Zone) → Tight z → TightMaybe (meet z w)
meet_tight {z} w = (meet_means z w refl).tight

pub proper_meet : {from to : ℕ} {z : Zone} (w : Zone) {x : Zone} → Proper from to z → meet z w ≡ Some x → Proper from to x
proper_meet {z} w p e =
    record {
      tight = subst TightMaybe e (meet_tight w p.tight);
      inside = record { inside = λ s t h. p.inside.inside s t ((meet_members z w s t).0 (subst (λ (r : Option Zone). InMaybe r s t) (sym e) h)).0 };
    }

-- ==== 4. Composition of tight zones

-- exactly the stretches with some cut, any fraction
pub compose_members : {z w : Zone} → Tight z → Tight w → (x y : Time) → InMaybe (compose z w) x y ↔ ((t : Time) × In z x t × In w t y)
compose_members {z} {w} = (compose_means z w refl).members

-- tight, or None
pub compose_tight : {z w : Zone} → Tight z → Tight w → TightMaybe (compose z w)
compose_tight {z} {w} = (compose_means z w refl).tight

module _ {z w : Zone} (h : Tight z) (k : Tight w) where
  -- of a composition that is not None: a member has a cut, and a stretch with a cut is a member
  pub compose_cut : {v : Zone} → compose z w ≡ Some v → (x y : Time) → In v x y → (t : Time) × In z x t × In w t y
  compose_cut e x y p = (compose_members h k x y).0 (subst (λ (r : Option Zone). InMaybe r x y) (sym e) p)

  pub compose_glue : (x t y : Time) → In z x t → In w t y → (v : Zone) × (compose z w ≡ Some v) × In v x y
  compose_glue x t y p q = settle (compose z w) _ (λ v e. (v, e, subst (λ (r : Option Zone). InMaybe r x y) e m)) (λ e. absurd (subst (λ (r : Option Zone). InMaybe r x y) e m))
    where
      m : InMaybe (compose z w) x y
      m = (compose_members h k x y).1 (t, p, q)

  -- None exactly when no end of the left is a start of the right
  pub compose_empty : (compose z w ≡ None) ↔ ((x t y : Time) → In z x t → In w t y → ⊥)
  compose_empty = (
    λ e x t y p q. let g = compose_glue x t y p q in no_zone (sym e ∙ g.1),
    λ f. settle (compose z w) (compose z w ≡ None)
        (λ v e. let m = tight_member (subst TightMaybe e (compose_tight h k)) in let c = compose_cut e m.0 m.1 m.2 in absurd (f m.0 c.0 m.1 c.1 c.2))
        (λ e. e),
  )

pub proper_compose : {from to : ℕ} {z w x : Zone} → Proper from to z → Proper from to w → compose z w ≡ Some x → Proper from to x
proper_compose {z} {w} p q e =
    record {
      tight = subst TightMaybe e (compose_tight p.tight q.tight);
      inside =
          record {
            inside = λ s t h. let c = compose_cut p.tight q.tight e s t h in
                let l = p.inside.inside s c.0 c.1 in
                let r = q.inside.inside c.0 t c.2 in
                (l.0, times.≤_trans l.1 r.1, r.2);
          };
    }

-- ==== 5. Inclusion

-- `contains z w`, and inclusion on words, which answers the same: exactly if every member of w is a member of z
pub contains_members : (z : Zone) {w : Zone} → Tight w → T (contains z w) ↔ Includes z w
contains_members z {w} = (contains_means z w refl).members

-- every member stays one (of any zones)
pub contains_in : (z w : Zone) → T (contains z w) → Includes z w
contains_in z w t x y h = tightening.⊑-in ((contains-⊑ z w).0 t) h

-- .. and so for the limits on start
pub contains_starts : (z w : Zone) → T (contains z w) → (w.start ≤ᴸ z.start) × (w.nstart ≤ᴸ z.nstart)
contains_starts z w t = let i = (contains-⊑ z w).0 t in (i.start, i.nstart)

pub contains_refl : (z : Zone) → T (contains z z)
contains_refl z = (contains-⊑ z z).1 (record { start = order.≤-refl _; nstart = order.≤-refl _; end = order.≤-refl _; nend = order.≤-refl _; length = order.≤-refl _; nlength = order.≤-refl _ })

pub contains_trans : (z w v : Zone) → T (contains z w) → T (contains w v) → T (contains z v)
contains_trans z w v a b =
    let f = (contains-⊑ z w).0 a in
    let g = (contains-⊑ w v).0 b in
    (contains-⊑ z v).1
    (record {
      start = order.≤_trans g.start f.start;
      nstart = order.≤_trans g.nstart f.nstart;
      end = order.≤_trans g.end f.end;
      nend = order.≤_trans g.nend f.nend;
      length = order.≤_trans g.length f.length;
      nlength = order.≤_trans g.nlength f.nlength;
    })

pub contains_antisym : (z w : Zone) → T (contains z w) → T (contains w z) → z ≡ w
contains_antisym z w a b = ⊑-antisym ((contains-⊑ w z).0 b) ((contains-⊑ z w).0 a)

-- two tight zones with the same members are equal
pub same_members : {z w : Zone} → Tight z → Tight w → ((x y : Time) → In z x y ↔ In w x y) → z ≡ w
same_members {z} {w} h k f = contains_antisym z w ((contains_members z k).1 (λ x y. (f x y).1)) ((contains_members w h).1 (λ x y. (f x y).0))

-- equality of zones is decided
pub same_zone? : (z w : Zone) → Dec (z ≡ w)
same_zone? z w = go (contains z w) (contains w z) refl refl
  where
    go : (a b : Bool) → contains z w ≡ a → contains w z ≡ b → Dec (z ≡ w)
    go true true p q = yes (contains_antisym z w (subst T (sym p) tt) (subst T (sym q) tt))
    go false b p q = no (λ e. subst T (ap (contains z) e ∙ p) (contains_refl z))
    go true false p q = no (λ e. subst T (ap (λ (v : Zone). contains v z) e ∙ q) (contains_refl z))

-- ==== 6. For the bound on rounds, and for the machine's numbers

-- composition is monotone in its left argument
pub compose_mono : {z v w x : Zone} → Tight z → Tight v → Tight w → T (contains v z) → compose z w ≡ Some x → (y : Zone) × (compose v w ≡ Some y) × T (contains y x)
compose_mono {z} {v} {w} {x} hz hv hw c e =
    let hx = subst TightMaybe e (compose_tight hz hw) in
    let m = tight_member hx in
    let k = compose_cut hz hw e m.0 m.1 m.2 in
    let g = compose_glue hv hw m.0 k.0 m.1 (contains_in v z c m.0 k.0 k.1) k.2 in (
      g.0,
      g.1,
      (contains_members g.0 hx).1
          (λ s t p. let q = compose_cut hz hw e s t p in
          subst (λ (r : Option Zone). InMaybe r s t) g.1 ((compose_members hv hw s t).1 (q.0, contains_in v z c s q.0 q.1, q.2))),
    )

-- `Extends z u`: u may be z composed with more zones
pub extends_refl : (z : Zone) → Extends z z
extends_refl = lengths.extends_refl

module _ {z w x : Zone} (h : Tight z) (k : Tight w) (e : compose z w ≡ Some x) where
  new : ¬ T (contains z x) → ¬ (across z w ⊑ z)
  new n i = n ((contains-⊑ z x).1 (subst (λ (j : Zone). j ⊑ z) (composed z w e) i))

  pub extends_step : {u : Zone} → Extends x u → Extends z u
  extends_step {u} f = lengths.extends_step z w (tight_is.0 k) (subst (λ (j : Zone). Extends j u) (sym (composed z w e)) f)

  -- a composition that does not lie inside its left zone is not shorter, and its right zone holds a stretch of length 1 or more
  pub span_longer : ¬ T (contains z x) → span z ≤ span x
  span_longer n = subst (λ (j : Zone). span z ≤ span j) (composed z w e) (lengths.span_longer z w (tight_is.0 h) (tight_is.0 k) (new n))

  pub span_some : ¬ T (contains z x) → 1 ≤ span w
  span_some n = lengths.span_some z w (tight_is.0 k) (new n)

  -- where the right zone is composed again later on, with a result that does not lie inside x, the first time adds its whole length
  pub span_adds : {u v : Zone} → Extends x u → compose u w ≡ Some v → ¬ T (contains x v) → span z + span w ≤ span x
  span_adds {u} {v} f g n =
      subst (λ (j : Zone). span z + span w ≤ span j) (composed z w e)
      (lengths.span_adds z w u (tight_is.0 h) (tight_is.0 k) (subst (λ (j : Zone). Extends j u) (sym (composed z w e)) f)
      (λ i. n ((contains-⊑ x v).1 (subst (λ (j : Zone). v ⊑ j) (composed z w e) (subst (λ (j : Zone). j ⊑ across z w) (composed u w g) i)))))

-- the length of a zone inside ticks from..to is at most to − from
pub span_bound : {from to : ℕ} {z : Zone} → Proper from to z → span z ≤ to - from
unfolding span up dn
span_bound {from} {to} {z} p =
    let h = tight_is.0 p.tight in
    let b = (inside_is h from to).0 p.inside in
    omega (arith, num_le h.length, sum_ud z.end z.nstart, num_le b.0, num_le b.1, neg (pos from), lengths.one_sided z)

-- a tight zone inside 0..d has every number within −d..d
pub ranged : {from to : ℕ} {z : Zone} → Proper from to z → Ranged to z
ranged {from} {to} p = let h = tight_is.0 p.tight in range h ((inside_is h from to).0 p.inside).1

pub ranged_more : {n m : ℕ} {z : Zone} → n ≤ m → Ranged n z → Ranged m z
ranged_more h r = record { start = omega (arith, r.start); nstart = omega (arith, r.nstart); end = omega (arith, r.end); nend = omega (arith, r.nend); length = omega (arith, r.length); nlength = omega (arith, r.nlength) }

-- ==== 7. The zones to begin with

pub run_members : (from to : ℕ) (x y : Time) → In (run from to) x y ↔ ((at_tick from ≤ᵀ x) × (x <ᵀ y) × (y ≤ᵀ at_tick to))
run_members from to = (run_means from to refl).members

pub diagonal_members : (from to : ℕ) (x y : Time) → In (diagonal from to) x y ↔ ((at_tick from ≤ᵀ x) × (x ≈ᵀ y) × (y ≤ᵀ at_tick to))
diagonal_members from to = (diagonal_means from to refl).members

pub everything_members : (from to : ℕ) (x y : Time) → In (everything from to) x y ↔ Stretch from to x y
everything_members from to = (everything_means from to refl).members

pub band_members : (from to : ℕ) (longest shortest : Limit) (x y : Time)
    → InMaybe (band from to longest shortest) x y ↔ (Stretch from to x y × Within longest y x × Within shortest x y)
band_members from to longest shortest = (band_means from to longest shortest refl).members

pub proper_run : {from to : ℕ} (s e : ℕ) → from ≤ s → s < e → e ≤ to → Proper from to (run s e)
proper_run s e a b c =
    record {
      tight = (run_means s e refl).tight b;
      inside =
          record {
            inside = λ x y h. let m = (run_members s e x y).0 h in
                (times.≤_trans (times.tick-≤ a) m.0, times.<-≤ m.1, times.≤_trans m.2 (times.tick-≤ c));
          };
    }

-- a zone inside some ticks is inside more of them
pub proper_within : {from to s e : ℕ} {z : Zone} → from ≤ s → e ≤ to → Proper s e z → Proper from to z
proper_within a b p =
    record {
      tight = p.tight;
      inside = record { inside = λ x y i. let k = p.inside.inside x y i in (times.≤_trans (times.tick-≤ a) k.0, k.1, times.≤_trans k.2 (times.tick-≤ b)) };
    }

pub proper_diagonal : (from to : ℕ) → from ≤ to → Proper from to (diagonal from to)
proper_diagonal from to h =
    record { tight = (diagonal_means from to refl).tight h; inside = record { inside = λ x y p. let m = (diagonal_members from to x y).0 p in (m.0, (times.≈-≤ m.1).0, m.2) } }

pub proper_everything : (from to : ℕ) → from ≤ to → Proper from to (everything from to)
proper_everything from to h = record { tight = (everything_means from to refl).tight h; inside = record { inside = λ x y p. (everything_members from to x y).0 p } }

pub proper_band : (from to : ℕ) (longest shortest : Limit) {z : Zone} → band from to longest shortest ≡ Some z → Proper from to z
proper_band from to longest shortest e =
    record {
      tight = (band_means from to longest shortest (sym e)).tight;
      inside = record { inside = λ x y p. ((band_members from to longest shortest x y).0 (subst (λ (r : Option Zone). InMaybe r x y) (sym e) p)).0 };
    }

pos_sub : (from : ℕ) {to : ℕ} → from ≤ to → pos to -ℤ pos from ≡ pos (to - from)
pos_sub zero h = ap pos (omega arith)
pos_sub (suc b) {to} h = rw (le-ltb to (suc b) h)

-- a stretch inside from..to lasts at most to − from
pub whole_most : {from to : ℕ} {x y : Time} → from ≤ to → at_tick from ≤ᵀ x → x ≤ᵀ y → y ≤ᵀ at_tick to → Within (most (to - from)) y x
unfolding everything
whole_most {from} {to} {x} {y} h a b c = subst (λ (v : ℤ). Within (AtMost v) y x) (pos_sub from h) ((everything_members from to x y).1 (a, b, c)).length

-- ==== 8. Equal times

-- equal times are members alike
pub in_same : {z : Zone} {x y u v : Time} → x ≈ᵀ u → y ≈ᵀ v → In z x y → In z u v
in_same {z} p q h =
    record {
      start = times.within_same z.start p (times.≈-refl origin) h.start;
      nstart = times.within_same z.nstart (times.≈-refl origin) p h.nstart;
      end = times.within_same z.end q (times.≈-refl origin) h.end;
      nend = times.within_same z.nend (times.≈-refl origin) q h.nend;
      length = times.within_same z.length q p h.length;
      nlength = times.within_same z.nlength p q h.nlength;
    }
