-- The composition of two tight zones holds exactly the stretches that have a cut.
use Rattle.std.specs.Prelude.{Some}
use mathlib.Core.Path.{refl}
use mathlib.Core.Logic.{◌↔◌}
use mathlib.Core.List.{[], ◌∷◌}
use Prim.Native.Nat.{ℕ, ◌+◌, ◌*◌, ◌<◌, ◌≤◌}
use native.Mathlib.Nat.{mul-le-mul_right, mul-pos}
use native.Mathlib.Omega.{arith}
use Rattle.limit.specs.Time.{Time}
use Rattle.limit.specs.declared.Limit.{Limit}
use Rattle.limit.specs.Limit.{◌≤ᴸ◌, ◌⊕◌, nought}
use Rattle.zone.specs.Zone.{Zone, In, InMaybe, where_room, across, compose}
use Rattle.zone.proofs.Closed.{Closed}
use Rattle.limit.proofs.Linear.{up, dn, un_le, le_lin, nought_up, nought_dn, nought_un}
use Rattle.limit.proofs.Common.{KeepsOver, Is, Is_scale, over_scale, widen, through, self, round}
use Rattle.zone.proofs.Common.{InOver, in_over}
use Rattle.limit.proofs.Order.{≤_trans, flip, lesser_l, lesser_r, lesser_of}
use Rattle.zone.proofs.Tighten.{room_is}
use Rattle.limit.proofs.Helly.{helly}

pub forwards : (D X : ℕ) {l : Limit} → l ≤ᴸ nought → up l * D ≤ X + dn l * D
forwards D X {l} h =
    let k : up l ≤ dn l = omega (arith, le_lin h, nought_up, nought_dn, nought_un, un_le l) in
    omega (arith, mul-le-mul_right D k)

module _ {z w : Zone} (tz : Closed z) (tw : Closed w) where
  cut : {D X Y : ℕ} → 0 < D → nought ≤ᴸ w.nstart ⊕ z.end → nought ≤ᴸ z.nend ⊕ w.start → InOver D (across z w) X Y → (t : ℕ) × InOver (2 * D) z (2 * X) t × InOver (2 * D) w t (2 * Y)
  unfolding across
  cut {D} {X} {Y} hD a b h =
      let r = helly D (record { at = X; lim = z.nlength }) (record { at = 0; lim = z.nend } ∷ record { at = 0; lim = w.nstart } ∷ record { at = Y; lim = w.length } ∷ [])
      (record { at = X; lim = z.length }) (record { at = 0; lim = z.end } ∷ record { at = 0; lim = w.start } ∷ record { at = Y; lim = w.nlength } ∷ [])
      (forwards D X tz.onward) (
        (widen hD (flip _ _ tz.round_length) self, (widen hD (≤_trans (lesser_l _ _) tz.start) h.start, (widen hD (lesser_r _ _) h.start, (widen hD (lesser_l _ _) h.nlength, tt)))),
        (
          (widen hD (≤_trans (lesser_l _ _) tz.nstart) h.nstart, (widen hD (flip _ _ tz.round_end) self, (widen hD b self, (widen hD (lesser_r _ _) h.nend, tt)))),
          (
            (widen hD (lesser_r _ _) h.nstart, (widen hD a self, (widen hD (flip _ _ tw.round_start) self, (widen hD (≤_trans (lesser_l _ _) tw.nend) h.nend, tt)))),
            (
              (widen hD (lesser_l _ _) h.length, (widen hD (lesser_r _ _) h.end, (widen hD (≤_trans (lesser_l _ _) tw.end) h.end, (widen hD tw.round_length self, tt)))),
              tt,
            ),
          ),
        ),
      )
      in (
        r.0,
        record {
          start = over_scale 2 (omega arith) (widen hD (lesser_l _ _) h.start);
          nstart = over_scale 2 (omega arith) (widen hD (lesser_l _ _) h.nstart);
          end = r.2.1.0;
          nend = r.1.1.0;
          length = r.2.0;
          nlength = r.1.0;
        },
        record {
          start = r.2.1.1.0;
          nstart = r.1.1.1.0;
          end = over_scale 2 (omega arith) (widen hD (lesser_l _ _) h.end);
          nend = over_scale 2 (omega arith) (widen hD (lesser_l _ _) h.nend);
          length = r.1.1.1.1.0;
          nlength = r.2.1.1.1.0;
        },
      )

  glue : {D X T Y : ℕ} → InOver D z X T → InOver D w T Y → InOver D (across z w) X Y
  unfolding across
  glue {D} {X} {T} {Y} h k =
      record {
        start = lesser_of (λ l. KeepsOver D l X 0) h.start (through h.nlength k.start);
        nstart = lesser_of (λ l. KeepsOver D l 0 X) h.nstart (through k.nstart h.length);
        end = lesser_of (λ l. KeepsOver D l Y 0) k.end (through k.length h.end);
        nend = lesser_of (λ l. KeepsOver D l 0 Y) k.nend (through h.nend k.nlength);
        length = lesser_of (λ l. KeepsOver D l Y X) (through k.length h.length) (through k.end h.nstart);
        nlength = lesser_of (λ l. KeepsOver D l X Y) (through h.nlength k.nlength) (through h.start k.nend);
      }

-- ---- the statement, for times of any denominators

pub compose_is : {z w : Zone} → Closed z → Closed w → (x y : Time) → InMaybe (compose z w) x y ↔ ((t : Time) × In z x t × In w t y)
unfolding compose
compose_is {z} {w} tz tw x y = (
  room_is w.nstart z.end (where_room z.nend w.start (Some (across z w))) (λ r. InMaybe r x y → Cut)
      (λ a. room_is z.nend w.start (Some (across z w)) (λ r. InMaybe r x y → Cut) (λ b h. make a b h) (λ n h. absurd h))
      (λ n h. absurd h),
  λ c. room_is w.nstart z.end (where_room z.nend w.start (Some (across z w))) (λ r. InMaybe r x y)
      (λ a. room_is z.nend w.start (Some (across z w)) (λ r. InMaybe r x y)
      (λ b. (in_over (hD c) (ix c) (iy c)).1 (glue tz tw (left c) (right c)))
      (λ n. absurd (n (round (hD c) (through (left c).nend (right c).start)))))
      (λ n. absurd (n (round (hD c) (through (right c).nstart (left c).end)))),
)
  where
    Cut : Type 0
    Cut = (t : Time) × In z x t × In w t y

    make : nought ≤ᴸ w.nstart ⊕ z.end → nought ≤ᴸ z.nend ⊕ w.start → In (across z w) x y → Cut
    make a b h =
        let D : ℕ = x.den * y.den in
        let h0 : 0 < x.den * y.den = mul-pos x.some y.some in
        let jx : Is (x.num * y.den) (x.den * y.den) x = record { same = omega arith } in
        let jy : Is (y.num * x.den) (x.den * y.den) y = record { same = omega arith } in
        let r = cut tz tw h0 a b ((in_over h0 jx jy).0 h) in
        let h2 : 0 < 2 * (x.den * y.den) = omega arith in
        let t : Time = record { num = r.0; den = 2 * (x.den * y.den); some = h2 } in
        let jt : Is r.0 (2 * (x.den * y.den)) t = record { same = refl } in
        (t, (in_over h2 (Is_scale 2 jx) jt).1 r.1, (in_over h2 jt (Is_scale 2 jy)).1 r.2)

    K : Cut → ℕ
    K c = x.den * c.0.den * y.den

    hD : (c : Cut) → 0 < K c
    hD c = mul-pos (mul-pos x.some c.0.some) y.some

    ix : (c : Cut) → Is (x.num * c.0.den * y.den) (K c) x
    ix c = record { same = omega arith }

    it : (c : Cut) → Is (c.0.num * x.den * y.den) (K c) c.0
    it c = record { same = omega arith }

    iy : (c : Cut) → Is (y.num * x.den * c.0.den) (K c) y
    iy c = record { same = omega arith }

    left : (c : Cut) → InOver (K c) z (x.num * c.0.den * y.den) (c.0.num * x.den * y.den)
    left c = (in_over (hD c) (ix c) (it c)).0 c.1

    right : (c : Cut) → InOver (K c) w (c.0.num * x.den * y.den) (y.num * x.den * c.0.den)
    right c = (in_over (hD c) (it c) (iy c)).0 c.2
