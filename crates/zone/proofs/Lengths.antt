-- What the bound on the rounds of a star needs of composition: how the limit on the length grows from left to right. `span` is the whole
-- number of that limit; `Extends z u` says that u may be z composed with more zones: only its limits on end and length may be higher.
use Rattle.std.specs.Prelude.{Some}
use mathlib.Core.Path.{◌≡◌, refl, sym, subst}
use mathlib.Core.Bool.{Bool, true, false}
use Prim.Native.Nat.{ℕ, zero, suc, ◌+◌, ◌≤◌, min}
use native.Mathlib.Omega.{arith}
use Rattle.limit.specs.declared.Limit.{Limit}
use Rattle.limit.specs.Limit.{at_most, ◌≤ᴸ◌, ◌⊕◌, lesser, nought}
use Rattle.zone.specs.Zone.{Zone, where_room, across, compose}
use Rattle.limit.proofs.Linear.{up, dn, un_le, le_lin, lin_le, sum_ud, sum_un, one_side, nought_up, nought_dn, nought_un}
use Rattle.limit.proofs.Order.{≤-refl, ≤_trans, not≤, ⊕-mono, ⊕-comm, ⊕-assoc, lesser_l, lesser_r, lesser_of}
use Rattle.zone.proofs.Closed.{Closed}
use Rattle.zone.proofs.Tighten.{◌⊑◌, room_is}
use Rattle.zone.proofs.Range.{num_le}

pub record Extends (z u : Zone) : Type 0 where
  pub start : u.start ≤ᴸ z.start
  pub nstart : u.nstart ≤ᴸ z.nstart
  pub nend : u.nend ≤ᴸ z.nend
  pub nlength : u.nlength ≤ᴸ z.nlength

unfoldable pub span : Zone → ℕ
span z = up z.length

pub extends_refl : (z : Zone) → Extends z z
extends_refl z = record { start = ≤-refl _; nstart = ≤-refl _; nend = ≤-refl _; nlength = ≤-refl _ }

extends_trans : {a b c : Zone} → Extends a b → Extends b c → Extends a c
extends_trans f k = record { start = ≤_trans k.start f.start; nstart = ≤_trans k.nstart f.nstart; nend = ≤_trans k.nend f.nend; nlength = ≤_trans k.nlength f.nlength }

-- ---- limits that are at most, or at least, nought

shrink : (l m : Limit) → m ≤ᴸ nought → l ⊕ m ≤ᴸ l
shrink l m h = lin_le (omega (arith, le_lin h, sum_ud l m, sum_un l m, nought_up, nought_dn, nought_un, un_le l, un_le m))

grow : (l m : Limit) → nought ≤ᴸ m → l ≤ᴸ m ⊕ l
grow l m h = lin_le (omega (arith, le_lin h, sum_ud m l, sum_un m l, nought_up, nought_dn, nought_un, un_le l, un_le m))

span_mono : {l m : Limit} → l ≤ᴸ m → up l ≤ up m
span_mono {l} {m} h = omega (arith, num_le h, one_side l, one_side m)

span_sum : (l m : Limit) → nought ≤ᴸ l → nought ≤ᴸ m → up l + up m ≤ up (l ⊕ m)
span_sum l m h k = omega (arith, num_le h, num_le k, sum_ud l m, one_side l, one_side m, one_side (l ⊕ m), nought_up, nought_dn)

span_zero : (l : Limit) → up l ≡ 0 → l ≤ᴸ nought
span_zero l e = lin_le (omega (arith, nought_up, nought_dn, nought_un))

-- the length of a closed zone can be 0 or more
long : {z : Zone} → Closed z → nought ≤ᴸ z.length
long {z} h = ≤_trans h.round_length (shrink z.length z.nlength h.onward)

at_least_both : (P : Limit) {l m : Limit} → P ≤ᴸ l → P ≤ᴸ m → P ≤ᴸ lesser l m
at_least_both P {l} {m} h k = lesser_of (λ x. P ≤ᴸ x) {l = l} {m = m} h k

dec : (l m : Limit) → Dec (l ≤ᴸ m)
dec l m = go (at_most l m) refl
  where
    go : (b : Bool) → at_most l m ≡ b → Dec (l ≤ᴸ m)
    go true q = yes (record { le = subst lib.Dec.T (sym q) tt })
    go false q = no (λ h. subst lib.Dec.T q h.le)

-- ---- a composition that is not empty is what the two zones leave of start and end

pub composed : (z w : Zone) {x : Zone} → compose z w ≡ Some x → across z w ≡ x
unfolding compose
composed z w {x} =
    room_is w.nstart z.end (where_room z.nend w.start (Some (across z w))) (λ r. r ≡ Some x → across z w ≡ x)
    (λ _. room_is z.nend w.start (Some (across z w)) (λ r. r ≡ Some x → across z w ≡ x) (λ _ e. cc) (λ _ e. absurd (let f : ◌≡◌ {A = ℕ} 0 1 = cc in omega arith)))
    (λ _ e. absurd (let f : ◌≡◌ {A = ℕ} 0 1 = cc in omega arith))

module _ (z w : Zone) (hw : Closed w) where
  across_extends : Extends z (across z w)
  unfolding across
  across_extends =
      record {
        start = lesser_l _ _;
        nstart = lesser_l _ _;
        nend = ≤_trans (lesser_r _ _) (shrink z.nend w.nlength hw.onward);
        nlength = ≤_trans (lesser_l _ _) (shrink z.nlength w.nlength hw.onward);
      }

-- from the four limits of `Extends` and the two others, inclusion
inside : {z x : Zone} → Extends z x → x.end ≤ᴸ z.end → x.length ≤ᴸ z.length → x ⊑ z
inside f h k = record { start = f.start; nstart = f.nstart; end = h; nend = f.nend; length = k; nlength = f.nlength }

-- a composition that does not lie inside its left zone is not shorter
longer : (z w : Zone) → Closed z → Closed w → ¬ (across z w ⊑ z) → z.length ≤ᴸ (across z w).length
longer z w h k n = go (dec z.length (across z w).length)
  where
    -- were it shorter, its end would be no later than z's
    early : ¬ (z.length ≤ᴸ (across z w).length) → ¬ (w.end ≤ᴸ z.end) → ⊥
    early l e = l (unfold across in at_least_both z.length (grow z.length w.length (long k)) (≤_trans h.length (⊕-mono (not≤ e) (≤-refl z.nstart))))

    end_in : ¬ (z.length ≤ᴸ (across z w).length) → (across z w).end ≤ᴸ z.end
    end_in l = settle (dec w.end z.end)
      where
        settle : Dec (w.end ≤ᴸ z.end) → (across z w).end ≤ᴸ z.end
        settle (yes e) = unfold across in ≤_trans (lesser_l w.end (w.length ⊕ z.end)) e
        settle (no e) = absurd (early l e)

    go : Dec (z.length ≤ᴸ (across z w).length) → z.length ≤ᴸ (across z w).length
    go (yes l) = l
    go (no l) = absurd (n (inside (across_extends z w k) (end_in l) (not≤ l)))

-- and its right zone holds a stretch of length 1 or more
lengthens : (z w : Zone) → Closed w → ¬ (across z w ⊑ z) → 1 ≤ up w.length
lengthens z w k n = go (up w.length) refl
  where
    back : up w.length ≡ 0 → (l : Limit) → w.length ⊕ l ≤ᴸ l
    back e l = ≤_trans (rw (⊕-comm w.length l) (≤-refl _)) (shrink l w.length (span_zero w.length e))

    go : (m : ℕ) → up w.length ≡ m → 1 ≤ m
    go zero e =
        absurd (n (inside (across_extends z w k) (unfold across in ≤_trans (lesser_r w.end (w.length ⊕ z.end)) (back e z.end)) (unfold across in ≤_trans (lesser_l (w.length ⊕ z.length) (w.end ⊕ z.nstart)) (back e z.length))))
    go (suc m) e = omega arith

-- where the right zone is composed again later on, with a result that does not lie inside, the first time adds its whole length
adds : (z w u : Zone) → Closed z → Closed w → Extends (across z w) u → ¬ (across u w ⊑ across z w) → w.length ⊕ z.length ≤ᴸ w.end ⊕ z.nstart
adds z w u h k f n = go (dec (w.length ⊕ z.length) (w.end ⊕ z.nstart))
  where
    regroup : w.length ⊕ z.length ≤ᴸ (w.length ⊕ z.end) ⊕ z.nstart
    regroup = rw (⊕-assoc w.length z.end z.nstart) (⊕-mono (≤-refl w.length) h.length)

    go : Dec (w.length ⊕ z.length ≤ᴸ w.end ⊕ z.nstart) → w.length ⊕ z.length ≤ᴸ w.end ⊕ z.nstart
    go (yes l) = l
    go (no l) = absurd (n (inside (extends_trans f (across_extends u w k)) ends lengths))
      where
        -- w.end is below w.length ⊕ z.end, so both ends are w's
        ends : (across u w).end ≤ᴸ (across z w).end
        ends = unfold across in ≤_trans (lesser_l w.end (w.length ⊕ u.end)) (at_least_both w.end (≤-refl w.end) (settle (dec w.end (w.length ⊕ z.end))))
          where
            settle : Dec (w.end ≤ᴸ w.length ⊕ z.end) → w.end ≤ᴸ w.length ⊕ z.end
            settle (yes e) = e
            settle (no e) = absurd (l (≤_trans regroup (⊕-mono (not≤ e) (≤-refl z.nstart))))

        lengths : (across u w).length ≤ᴸ (across z w).length
        lengths = unfold across in ≤_trans (lesser_r (w.length ⊕ u.length) (w.end ⊕ u.nstart)) (≤_trans (⊕-mono (≤-refl w.end) (≤_trans f.nstart (unfold across in lesser_l z.nstart (w.nstart ⊕ z.length)))) (at_least_both (w.end ⊕ z.nstart) (not≤ l) (≤-refl _)))

-- ---- the same, as spans

pub extends_step : (z w : Zone) → Closed w → {u : Zone} → Extends (across z w) u → Extends z u
extends_step z w k f = extends_trans (across_extends z w k) f

pub span_longer : (z w : Zone) → Closed z → Closed w → ¬ (across z w ⊑ z) → span z ≤ span (across z w)
unfolding span
span_longer z w h k n = span_mono (longer z w h k n)

pub span_some : (z w : Zone) → Closed w → ¬ (across z w ⊑ z) → 1 ≤ span w
unfolding span
span_some z w k n = lengthens z w k n

pub span_adds : (z w u : Zone) → Closed z → Closed w → Extends (across z w) u → ¬ (across u w ⊑ across z w) → span z + span w ≤ span (across z w)
unfolding span across
span_adds z w u h k f n =
    let a = span_mono (at_least_both (w.length ⊕ z.length) (≤-refl (w.length ⊕ z.length)) (adds z w u h k f n)) in
    let b = span_sum w.length z.length (long k) (long h) in
    omega arith

pub one_sided : (z : Zone) → min (up z.length) (dn z.length) ≡ 0
one_sided z = one_side z.length
