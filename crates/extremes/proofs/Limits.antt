-- Limits on the end and on the negated end, as ticks that the end keeps to, attains or comes near.
use mathlib.Core.Path.{◌≡◌, refl, ap}
use Prim.Native.Nat.{ℕ, zero, suc, ◌+◌, ◌*◌, ◌≤◌}
use native.Mathlib.Nat.{mul-le-mul_left, mul-le-mul_right}
use native.Mathlib.Omega.{arith}
use lib.IntN.{ℤ, pos, negsuc, ◌-ℤ◌, ◌*ℤ◌}
use Rattle.signed.proofs.Integers.{arithZ, diff, times}
use Rattle.signed.proofs.Integers as Z
use Rattle.limit.specs.Time.{Time, origin, at_tick, difference, scaled, ◌≤ᵀ◌, ◌<ᵀ◌, ◌≈ᵀ◌}
use Rattle.limit.specs.declared.Limit.TheVariants.{AtMost, Below}
use Rattle.limit.specs.Limit.{Within}
use Rattle.limit.proofs.Linear.{up, dn, un, within_lin}
use Rattle.zone.proofs.Fine.{multiple}
use Rattle.extremes.specs.Ends.{Closer}
use Rattle.extremes.specs.Steps.{above, under}

-- ---- the end

pub end_bound : (v : ℤ) (y : Time) → Within (AtMost v) y origin → y ≤ᵀ at_tick (above v)
unfolding up dn un
end_bound (pos u) y h = record { le = omega (arith, (within_lin (AtMost (pos u)) y origin).0 h) }
end_bound (negsuc k) y h = record { le = omega (arith, (within_lin (AtMost (negsuc k)) y origin).0 h) }

pub end_below : (v : ℤ) (y : Time) → Within (Below v) y origin → y <ᵀ at_tick (above v)
unfolding up dn un
end_below (pos u) y h = record { lt = omega (arith, (within_lin (Below (pos u)) y origin).0 h) }
end_below (negsuc k) y h = absurd (omega (arith, (within_lin (Below (negsuc k)) y origin).0 h))

pub end_attained : (v : ℤ) (y : Time) → difference y origin ≡ scaled v y origin → y ≈ᵀ at_tick (above v)
end_attained (pos u) y e = record { same = omega (arithZ, e, diff (pos (y.num * 1)) (pos (0 * y.den)), times (pos u) (y.den * 1)) }
end_attained (negsuc k) y e = let s = y.some in absurd (omega (arithZ, e, diff (pos (y.num * 1)) (pos (0 * y.den)), times (negsuc k) (y.den * 1)))

pub end_near : (v : ℤ) (y e : Time) → origin <ᵀ e → Within (Below v) y origin → ¬ Within (AtMost (v *ℤ pos e.den -ℤ pos 1)) (multiple e.den y) origin → Closer e (at_tick (above v)) y
unfolding up dn un multiple
end_near (pos u) y e p h n =
    let w = pos u *ℤ pos e.den -ℤ pos 1 in
    let g : ¬ (e.den * y.num * 1 + Z.dn w * (y.den * 1) + 0 ≤ 0 * y.den + Z.up w * (y.den * 1)) = λ i. n ((within_lin (AtMost w) (multiple e.den y) origin).1 i) in
    let l = (within_lin (Below (pos u)) y origin).0 h in
    let k : 1 ≤ e.num = omega (arith, p.lt) in
    let c = mul-le-mul_right y.den k in
    let s = ap (λ (i : ℕ). i * y.den) (diff (pos u *ℤ pos e.den) (pos 1)) in
    let t = times (pos u) e.den in
    record {
      not_before = record { lt = omega arith };
      not_after = record { lt = let b = e.some in omega (arith, mul-le-mul_left e.den l) };
    }
end_near (negsuc k) y e p h n = absurd (omega (arith, (within_lin (Below (negsuc k)) y origin).0 h))

-- ---- the negated end

pub nend_bound : (v : ℤ) (y : Time) → Within (AtMost v) origin y → at_tick (under v) ≤ᵀ y
unfolding up dn un
nend_bound (pos u) y h = record { le = omega arith }
nend_bound (negsuc k) y h = record { le = omega (arith, (within_lin (AtMost (negsuc k)) origin y).0 h) }

pub nend_attained : (v : ℤ) (y : Time) → difference origin y ≡ scaled v origin y → y ≈ᵀ at_tick (under v)
nend_attained (pos u) y e = record { same = omega (arithZ, e, diff (pos (0 * y.den)) (pos (y.num * 1)), times (pos u) (1 * y.den)) }
nend_attained (negsuc k) y e = record { same = omega (arithZ, e, diff (pos (0 * y.den)) (pos (y.num * 1)), times (negsuc k) (1 * y.den)) }

-- a limit that is approached is not above 0, since no end is below 0
pub nend_low : (v : ℤ) (y : Time) → ¬ Within (AtMost (v *ℤ pos 1 -ℤ pos 1)) origin (multiple 1 y) → Z.up v ≡ 0
unfolding up dn un multiple
nend_low (pos zero) y n = refl
nend_low (negsuc k) y n = refl
nend_low (pos (suc u)) y n =
    let w = pos (suc u) *ℤ pos 1 -ℤ pos 1 in
    let s = ap (λ (i : ℕ). i * y.den) (diff (pos (suc u) *ℤ pos 1) (pos 1)) in
    let t = times (pos (suc u)) 1 in
    absurd (n ((within_lin (AtMost w) origin (multiple 1 y)).1 (omega arith)))

pub nend_below : (v : ℤ) (y : Time) → Z.up v ≡ 0 → Within (Below v) origin y → at_tick (under v) <ᵀ y
unfolding up dn un
nend_below (pos zero) y z h = record { lt = omega (arith, (within_lin (Below (pos zero)) origin y).0 h) }
nend_below (pos (suc u)) y z h = absurd (omega arith)
nend_below (negsuc k) y z h = record { lt = omega (arith, (within_lin (Below (negsuc k)) origin y).0 h) }

-- of a limit v that is u below 0, times the denominator of e: w is one less than that product
nend_close : (u : ℕ) (y e : Time) (w v : ℤ) → origin <ᵀ e → at_tick u <ᵀ y → Z.up v ≡ 0 → Z.dn v ≡ u * e.den
    → Z.up w + (Z.dn v + 1) ≡ Z.up v + Z.dn w → ¬ (Z.dn w * y.den ≤ e.den * y.num + Z.up w * y.den) → Closer e (at_tick u) y
nend_close u y e w v p l a b c g =
    let k : 1 ≤ e.num = omega (arith, p.lt) in
    let m = mul-le-mul_right y.den k in
    let s = ap (λ (i : ℕ). i * y.den) c in
    let t = ap (λ (i : ℕ). i * y.den) b in
    let r = ap (λ (i : ℕ). i * y.den) a in
    let q = e.some in
    record { not_before = record { lt = omega (arith, mul-le-mul_left e.den l.lt) }; not_after = record { lt = omega arith } }

pub nend_near : (v : ℤ) (y e : Time) → Z.up v ≡ 0 → origin <ᵀ e → Within (Below v) origin y → ¬ Within (AtMost (v *ℤ pos e.den -ℤ pos 1)) origin (multiple e.den y)
    → Closer e (at_tick (under v)) y
unfolding up dn un multiple
nend_near (pos (suc u)) y e z p h n = absurd (omega arith)
nend_near (pos zero) y e z p h n =
    let w = pos 0 *ℤ pos e.den -ℤ pos 1 in
    nend_close 0 y e w (pos 0 *ℤ pos e.den) p (nend_below (pos 0) y z h) (omega (arith, times (pos 0) e.den)) (omega (arith, times (pos 0) e.den))
    (omega (arith, diff (pos 0 *ℤ pos e.den) (pos 1)))
    (λ i. n ((within_lin (AtMost w) origin (multiple e.den y)).1 (omega arith)))
nend_near (negsuc k) y e z p h n =
    let w = negsuc k *ℤ pos e.den -ℤ pos 1 in
    nend_close (suc k) y e w (negsuc k *ℤ pos e.den) p (nend_below (negsuc k) y z h) (omega (arith, times (negsuc k) e.den)) (omega (arith, times (negsuc k) e.den))
    (omega (arith, diff (negsuc k *ℤ pos e.den) (pos 1)))
    (λ i. n ((within_lin (AtMost w) origin (multiple e.den y)).1 (omega arith)))
