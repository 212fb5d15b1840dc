-- Tight, which is said by its meaning, is the closed form on limits. So inclusion of zones is the order of their limits, and a tight zone
-- is known by its members.
use Rattle.std.specs.Prelude.{Option, Some, None}
use mathlib.Core.Path.{◌≡◌, ap}
use mathlib.Core.Bool.{Bool, true, false, ◌&&◌}
use mathlib.Core.Logic.{◌↔◌}
use Prim.Native.Nat.{◌*◌, ◌<◌}
use native.Mathlib.Omega.{arith}
use lib.Dec.{T}
use lib.IntN.{pos, ◌-ℤ◌}
use Rattle.signed.proofs.Integers.{arithZ, diff}
use Rattle.limit.specs.Time.{Time, origin}
use Rattle.limit.specs.declared.Limit.{Limit}
use Rattle.limit.specs.declared.Limit.TheVariants.{AtMost, Below}
use Rattle.limit.specs.Limit.{at_most, ◌≤ᴸ◌, value}
use Rattle.zone.specs.Zone.{Zone, In, Side, on-start, on-nstart, on-end, on-nend, on-length, on-nlength, limit, Loses, Tight, TightMaybe, contains}
use Rattle.limit.proofs.Linear.{up, dn, un, un_le, le_lin}
use Rattle.limit.proofs.Common.{through, round, both_den, within_through, within-≤, from_0}
use Rattle.zone.proofs.Common.{InOver, in_ground}
use Rattle.zone.proofs.Closed.{Closed, ClosedMaybe}
use Rattle.zone.proofs.Tighten.{◌⊑◌, ⊑-in}
use Rattle.zone.proofs.Sharp.{on, sharp, by_contra}

-- ---- tight is closed

-- one less, reached
lowered : Limit → Limit
lowered l = AtMost (value l -ℤ pos 1)

is_lower : (l : Limit) → ¬ (l ≤ᴸ lowered l)
unfolding up dn un lowered
is_lower l h = omega (arith, le_lin h, diff (value l) (pos 1), un_le l)

module _ {z : Zone} (h : Tight z) where
  -- a limit that no stretch of z breaks is not below z's own
  least : (k : Side) (m : Limit) → (Loses z k m → ⊥) → limit z k ≤ᴸ m
  least k m f = by_contra (λ n. f (h.sharp k m n))

  -- z has a member, since a lower limit would lose one
  some : Loses z on-start (lowered z.start)
  some = h.sharp on-start (lowered z.start) (is_lower z.start)

  some_den : 0 < some.from.den * some.to.den
  some_den = both_den some.from some.to

  some_in : InOver (some.from.den * some.to.den) z (some.from.num * some.to.den) (some.to.num * some.from.den)
  some_in = (in_ground some.from some.to).0 some.member

  tight_closed : Closed z
  tight_closed =
      record {
        start = least on-start _ (λ r. r.lost (within_through _ _ r.from r.to origin r.member.nlength r.member.end));
        nstart = least on-nstart _ (λ r. r.lost (within_through _ _ origin r.to r.from r.member.nend r.member.length));
        end = least on-end _ (λ r. r.lost (within_through _ _ r.to r.from origin r.member.length r.member.start));
        nend = least on-nend _ (λ r. r.lost (within_through _ _ origin r.from r.to r.member.nstart r.member.nlength));
        length = least on-length _ (λ r. r.lost (within_through _ _ r.to origin r.from r.member.end r.member.nstart));
        nlength = least on-nlength _ (λ r. r.lost (within_through _ _ r.from origin r.to r.member.start r.member.nend));
        round_start = round some_den (through some_in.start some_in.nstart);
        round_end = round some_den (through some_in.end some_in.nend);
        round_length = round some_den (through some_in.length some_in.nlength);
        after_0 = least on-nstart _ (λ r. r.lost (from_0 r.from));
        onward = least on-nlength _ (λ r. r.lost ((within-≤ r.from r.to).1 r.stretch));
      }

pub tight_is : {z : Zone} → Tight z ↔ Closed z
tight_is = (tight_closed, λ h. record { sharp = sharp h })

pub tight_maybe : (r : Option Zone) → ClosedMaybe r → TightMaybe r
tight_maybe (Some z) h = tight_is.1 h
tight_maybe None h = tt

-- ---- inclusion

pub inclusion_is : {z : Zone} (w : Zone) → Closed z → ((x y : Time) → In z x y → In w x y) ↔ z ⊑ w
inclusion_is {z} w h = (
  λ f. record { start = each f on-start; nstart = each f on-nstart; end = each f on-end; nend = each f on-nend; length = each f on-length; nlength = each f on-nlength },
  λ g x y p. ⊑-in g p,
)
  where
    each : ((x y : Time) → In z x y → In w x y) → (k : Side) → limit z k ≤ᴸ limit w k
    each f k = by_contra (λ n. let r = sharp h k (limit w k) n in r.lost (on (f r.from r.to r.member) k))

and_is : (a b : Bool) → T (a && b) ↔ (T a × T b)
and_is true b = (λ t. (tt, t), λ t. t.1)
and_is false b = (λ t. absurd t, λ t. absurd t.0)

pub contains-⊑ : (z w : Zone) → T (contains z w) ↔ w ⊑ z
contains-⊑ z w =
    let b1 = at_most w.start z.start in
    let b2 = at_most w.nstart z.nstart in
    let b3 = at_most w.end z.end in
    let b4 = at_most w.nend z.nend in
    let b5 = at_most w.length z.length in
    let i6 = and_is (b1 && b2 && b3 && b4 && b5) (at_most w.nlength z.nlength) in
    let i5 = and_is (b1 && b2 && b3 && b4) b5 in
    let i4 = and_is (b1 && b2 && b3) b4 in
    let i3 = and_is (b1 && b2) b3 in
    let i2 = and_is b1 b2 in (
      λ t. let f = i6.0 t in
          let e = i5.0 f.0 in
          let d = i4.0 e.0 in
          let c = i3.0 d.0 in
          let b = i2.0 c.0 in
          record { start = record { le = b.0 }; nstart = record { le = b.1 }; end = record { le = c.1 }; nend = record { le = d.1 }; length = record { le = e.1 }; nlength = record { le = f.1 } },
      λ g. i6.1 (i5.1 (i4.1 (i3.1 (i2.1 (g.start.le, g.nstart.le), g.end.le), g.nend.le), g.length.le), g.nlength.le),
    )

-- ---- a tight zone is known by its members

≤-antisym : {l m : Limit} → l ≤ᴸ m → m ≤ᴸ l → l ≡ m
unfolding up dn un
≤-antisym {l = AtMost a} {m = AtMost b} h k = ap AtMost (omega (arithZ, le_lin h, le_lin k))
≤-antisym {l = AtMost a} {m = Below b} h k = absurd (omega (arith, le_lin h, le_lin k))
≤-antisym {l = Below a} {m = AtMost b} h k = absurd (omega (arith, le_lin h, le_lin k))
≤-antisym {l = Below a} {m = Below b} h k = ap Below (omega (arithZ, le_lin h, le_lin k))

pub ⊑-antisym : {z w : Zone} → z ⊑ w → w ⊑ z → z ≡ w
⊑-antisym h k =
    λ i. record {
      start = ≤-antisym h.start k.start i;
      nstart = ≤-antisym h.nstart k.nstart i;
      end = ≤-antisym h.end k.end i;
      nend = ≤-antisym h.nend k.nend i;
      length = ≤-antisym h.length k.length i;
      nlength = ≤-antisym h.nlength k.nlength i;
    }
