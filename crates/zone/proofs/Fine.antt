-- How near a closed zone's limits come: a reached limit is attained, and no limit can be lowered to a fraction m / n either without
-- losing a stretch, so that one that is not reached is approached closer than any fraction.
use mathlib.Core.Path.{◌≡◌, refl, sym, ap, subst}
use Prim.Native.Nat.{ℕ, ◌+◌, ◌*◌, ◌<◌, ◌≤◌}
use native.Mathlib.Nat.{mul-pos, mul-le-mul_right}
use native.Mathlib.Decide.{dec_le}
use native.Mathlib.Omega.{arith}
use lib.IntN.{ℤ, pos, ◌-ℤ◌, ◌*ℤ◌}
use Rattle.signed.proofs.Integers.{arithZ, diff, times, to-<}
use Rattle.signed.proofs.Integers as Z
use Rattle.limit.specs.Time.{Time, origin, difference, scaled}
use Rattle.limit.specs.declared.Limit.{Limit}
use Rattle.limit.specs.declared.Limit.TheVariants.{AtMost, Below}
use Rattle.limit.specs.Limit.{Within, ◌≤ᴸ◌, ◌⊕◌, nought}
use Rattle.zone.specs.Zone.{Zone, In, Side, on-start, on-nstart, on-end, on-nend, on-length, on-nlength, limit, upper, lower, opposite, Keeps}
use Rattle.limit.proofs.Linear.{up, dn, un, un_le, le_lin, lin_le, sum_ud, sum_un}
use Rattle.limit.proofs.Order.{≤_trans}
use Rattle.limit.proofs.Common.{Is, Is_origin, KeepsOver, bridge, is_left, is_right, both_den}
use Rattle.zone.proofs.Common.{in_over}
use Rattle.zone.proofs.Closed.{Closed}
use Rattle.zone.proofs.Sharp.{on, sharp}

-- ---- a limit, counted in n-ths of a tick

unfoldable fine : ℕ → Limit → Limit
fine n (AtMost v) = AtMost (v *ℤ pos n)
fine n (Below v) = Below (v *ℤ pos n)

fine_lin : (n : ℕ) (l : Limit) → (up (fine n l) ≡ up l * n) × (dn (fine n l) ≡ dn l * n) × (un (fine n l) ≡ un l)
unfolding fine up dn un
fine_lin n (AtMost v) = ((times v n).0, (times v n).1, refl)
fine_lin n (Below v) = ((times v n).0, (times v n).1, refl)

fine_mono : (n : ℕ) {l m : Limit} → l ≤ᴸ m → 0 < n → fine n l ≤ᴸ fine n m
fine_mono n {l} {m} h hn = go (dec_le (up l + dn m + 1) (up m + dn l))
  where
    go : Dec (up l + dn m + 1 ≤ up m + dn l) → fine n l ≤ᴸ fine n m
    go (yes g) = lin_le (omega (arith, fine_lin n l, fine_lin n m, un_le m, mul-le-mul_right n g))
    go (no g) =
        let e : up l + dn m ≤ up m + dn l = omega (arith, le_lin h, un_le l) in
        lin_le (omega (arith, fine_lin n l, fine_lin n m, un_le l, le_lin h, mul-le-mul_right n e))

fine_sum : (n : ℕ) (l m : Limit) → fine n (l ⊕ m) ≤ᴸ fine n l ⊕ fine n m
fine_sum n l m =
    lin_le (omega (arith, fine_lin n (l ⊕ m), fine_lin n l, fine_lin n m, sum_ud (fine n l) (fine n m), sum_un (fine n l) (fine n m), sum_un l m, ap (λ (k : ℕ). k * n) (sum_ud l m)))

fine_nought : (n : ℕ) → fine n nought ≡ nought
unfolding fine
fine_nought n = ap AtMost (omega (arithZ, times (pos 0) n))

unfoldable fine_zone : ℕ → Zone → Zone
fine_zone n z = record { start = fine n z.start; nstart = fine n z.nstart; end = fine n z.end; nend = fine n z.nend; length = fine n z.length; nlength = fine n z.nlength }

fine_limit : (n : ℕ) (z : Zone) (k : Side) → limit (fine_zone n z) k ≡ fine n (limit z k)
unfolding fine_zone
fine_limit n z on-start = refl
fine_limit n z on-nstart = refl
fine_limit n z on-end = refl
fine_limit n z on-nend = refl
fine_limit n z on-length = refl
fine_limit n z on-nlength = refl

fine_closed : (n : ℕ) {z : Zone} → 0 < n → Closed z → Closed (fine_zone n z)
unfolding fine_zone
fine_closed n {z} hn h =
    record {
      start = f _ _ h.start;
      nstart = f _ _ h.nstart;
      end = f _ _ h.end;
      nend = f _ _ h.nend;
      length = f _ _ h.length;
      nlength = f _ _ h.nlength;
      round_start = rw (fine_nought n) at (f _ _ h.round_start);
      round_end = rw (fine_nought n) at (f _ _ h.round_end);
      round_length = rw (fine_nought n) at (f _ _ h.round_length);
      after_0 = rw (fine_nought n) at (fine_mono n h.after_0 hn);
      onward = rw (fine_nought n) at (fine_mono n h.onward hn);
    }
  where
    f : {l : Limit} (p q : Limit) → l ≤ᴸ p ⊕ q → fine n l ≤ᴸ fine n p ⊕ fine n q
    f {l} p q g = ≤_trans (fine_mono n g hn) (fine_sum n p q)

-- ---- n times a time, and an n-th of it

unfoldable pub multiple : ℕ → Time → Time
multiple n x = record { num = n * x.num; den = x.den; some = x.some }

is_upper : (k : Side) {x y : Time} {X Y D : ℕ} → Is X D x → Is Y D y → Is (upper 0 k X Y) D (upper origin k x y)
is_upper on-start ix iy = ix
is_upper on-nstart {D} ix iy = Is_origin D
is_upper on-end ix iy = iy
is_upper on-nend {D} ix iy = Is_origin D
is_upper on-length ix iy = iy
is_upper on-nlength ix iy = ix

-- two pairs of times with the same numerators over one denominator keep to the same limits
same_keeps : (k : Side) (m : Limit) {x y u v : Time} {X Y D : ℕ} → 0 < D → Is X D x → Is Y D y → Is X D u → Is Y D v → Keeps k m u v → Keeps k m x y
same_keeps k m {x} {y} {u} {v} h ix iy iu iv g =
    (bridge m (upper origin k x y) (lower origin k x y) h (is_upper k ix iy) (is_upper (opposite k) ix iy)).1
    ((bridge m (upper origin k u v) (lower origin k u v) h (is_upper k iu iv) (is_upper (opposite k) iu iv)).0 g)

module _ (n : ℕ) (hn : 0 < n) where
  part : Time → Time
  part x = record { num = x.num; den = n * x.den; some = mul-pos hn x.some }

  whole : {x : Time} {X D : ℕ} → Is X D x → Is X D (multiple n (part x))
  unfolding part multiple
  whole {x} {X} {D} i = record { same = omega (arith, ap (λ (k : ℕ). k * n) i.same) }

  parts : {x : Time} {X D : ℕ} → Is X D x → Is X (n * D) (part x)
  unfolding part
  parts {x} {X} {D} i = record { same = omega (arith, ap (λ (k : ℕ). k * n) i.same) }

  coarse : {l : Limit} {D X Y : ℕ} → KeepsOver D (fine n l) X Y → KeepsOver (n * D) l X Y
  coarse {l} {D} {X} {Y} h = record { keeps = omega (arith, h.keeps, ap (λ (k : ℕ). k * D) (fine_lin n l).0, ap (λ (k : ℕ). k * D) (fine_lin n l).1, (fine_lin n l).2) }

  coarse_in : (x y : Time) {z : Zone} → In (fine_zone n z) x y → In z (part x) (part y)
  unfolding fine_zone
  coarse_in x y h =
      let g = (in_over (both_den x y) (is_left x y) (is_right x y)).0 h in
      (in_over (mul-pos hn (both_den x y)) (parts (is_left x y)) (parts (is_right x y))).1
      (record { start = coarse g.start; nstart = coarse g.nstart; end = coarse g.end; nend = coarse g.nend; length = coarse g.length; nlength = coarse g.nlength })

  -- whatever fraction m / n is below one of a closed zone's limits, some stretch of the zone does not keep to it
  dense : {z : Zone} → Closed z → (k : Side) (m : Limit) → ¬ (fine n (limit z k) ≤ᴸ m) → (x : Time) × (y : Time) × In z x y × ¬ (Keeps k m (multiple n x) (multiple n y))
  dense {z} h k m g =
      let r = sharp (fine_closed n hn h) k m (subst (λ (l : Limit). ¬ (l ≤ᴸ m)) (sym (fine_limit n z k)) g) in
      let x = r.from in
      let y = r.to in
      (part x, part y, coarse_in x y r.member, λ w. r.lost (same_keeps k m (both_den x y) (is_left x y) (is_right x y) (whole (is_left x y)) (whole (is_right x y)) w))

  -- so a limit v that is not reached is approached closer than 1 / n: n times the difference is above n × v − 1
  pub approached : {z : Zone} → Closed z → (k : Side) (v : ℤ) → limit z k ≡ Below v → (x : Time) × (y : Time) × In z x y × ¬ (Keeps k (AtMost (v *ℤ pos n -ℤ pos 1)) (multiple n x) (multiple n y))
  unfolding fine
  approached h k v p = dense h k (AtMost (v *ℤ pos n -ℤ pos 1)) (rw p (λ g. omega (arithZ, g.le, diff (v *ℤ pos n) (pos 1))))

-- ---- a reached limit v is attained

attains : (v : ℤ) {l : Limit} → l ≡ AtMost v → (x y : Time) → Within l x y → ¬ (Within (Below v) x y) → difference x y ≡ scaled v x y
unfolding Within
attains v p x y h n =
    let k : Within (AtMost v) x y = subst (λ (m : Limit). Within m x y) p h in
    let g : ¬ (Z.up (difference x y) + Z.dn (scaled v x y) < Z.up (scaled v x y) + Z.dn (difference x y)) = λ l. n (to-< _ _ l) in
    omega (arithZ, k)

pub attained : {z : Zone} → Closed z → (k : Side) (v : ℤ) → limit z k ≡ AtMost v
    → (x : Time) × (y : Time) × In z x y × (difference (upper origin k x y) (lower origin k x y) ≡ scaled v (upper origin k x y) (lower origin k x y))
attained {z} h k v p =
    let r = sharp h k (Below v) (rw p (λ g. omega (arithZ, g.le))) in
    (r.from, r.to, r.member, attains v p (upper origin k r.from r.to) (lower origin k r.from r.to) (on r.member k) r.lost)
