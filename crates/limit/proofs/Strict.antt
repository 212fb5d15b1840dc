-- The strict order of times, and the tick that holds a time.
use mathlib.Core.Logic.{⊎_elim}
use Prim.Native.Nat.{ℕ, suc, ◌+◌, ◌/◌, ◌≤◌, ◌<◌}
use native.Mathlib.Nat.{div-mul-le_self, lt-div-mul-add}
use native.Mathlib.Omega.{arith}
use Rattle.limit.specs.Time.{Time, at_tick, ◌≤ᵀ◌, ◌<ᵀ◌, ◌≈ᵀ◌}
use Rattle.limit.proofs.Times.{≤-refl, ≤_trans, ≤-total, <-≤, ≈-≤}

pub not_both : {x y : Time} → x <ᵀ y → ¬ (y ≤ᵀ x)
not_both h k = omega (arith, h.lt, k.le)

-- what is not at most is above
above : {x y : Time} → ¬ (y ≤ᵀ x) → x <ᵀ y
above {x} {y} n = ⊎_elim (λ k. absurd (n k)) (λ k. k) (≤-total y x)

pub ≤-<-trans : {x y z : Time} → x ≤ᵀ y → y <ᵀ z → x <ᵀ z
≤-<-trans h k = above (λ n. not_both k (≤_trans n h))

pub <-≤-trans : {x y z : Time} → x <ᵀ y → y ≤ᵀ z → x <ᵀ z
<-≤-trans h k = above (λ n. not_both h (≤_trans k n))

pub <-trans : {x y z : Time} → x <ᵀ y → y <ᵀ z → x <ᵀ z
<-trans h k = ≤-<-trans (<-≤ h) k

pub <-same : {x y u v : Time} → x ≈ᵀ u → y ≈ᵀ v → x <ᵀ y → u <ᵀ v
<-same p q h = ≤-<-trans (≈-≤ p).1 (<-≤-trans h (≈-≤ q).0)

pub tick-< : {m n : ℕ} → at_tick m <ᵀ at_tick n → m < n
tick-< h = omega (arith, h.lt)

pub tick-≤-back : {m n : ℕ} → at_tick m ≤ᵀ at_tick n → m ≤ n
tick-≤-back h = omega (arith, h.le)

pub tick_next : (n : ℕ) → at_tick n <ᵀ at_tick (suc n)
tick_next n = record { lt = omega arith }

-- between two times there is a third
abbrev mediant : Time → Time → Time
mediant x y = record { num = x.num + y.num; den = x.den + y.den; some = omega (arith, x.some) }

mediant_between : {x y : Time} → x <ᵀ y → (x <ᵀ mediant x y) × (mediant x y <ᵀ y)
mediant_between h = (record { lt = omega (arith, h.lt) }, record { lt = omega (arith, h.lt) })

-- the later of two times, and the earlier
later : (x y : Time) → (m : Time) × (x ≤ᵀ m) × (y ≤ᵀ m) × ((z : Time) → x <ᵀ z → y <ᵀ z → m <ᵀ z)
later x y = ⊎_elim (λ h. (y, h, ≤-refl y, λ z a b. b)) (λ h. (x, ≤-refl x, <-≤ h, λ z a b. a)) (≤-total x y)

earlier : (x y : Time) → (m : Time) × (m ≤ᵀ x) × (m ≤ᵀ y) × ((z : Time) → z <ᵀ x → z <ᵀ y → z <ᵀ m)
earlier x y = ⊎_elim (λ h. (x, ≤-refl x, h, λ z a b. a)) (λ h. (y, <-≤ h, ≤-refl y, λ z a b. b)) (≤-total x y)

-- two open stretches that overlap have a time in common
pub common : {x y u v : Time} → x <ᵀ y → x <ᵀ v → u <ᵀ y → u <ᵀ v → (t : Time) × (x <ᵀ t) × (t <ᵀ y) × (u <ᵀ t) × (t <ᵀ v)
common {x} {y} {u} {v} a b c d =
    let l = later x u in
    let e = earlier y v in
    let m = mediant_between (l.3 e.0 (e.3 x a b) (e.3 u c d)) in
    (mediant l.0 e.0, ≤-<-trans l.1 m.0, <-≤-trans m.1 e.1, ≤-<-trans l.2 m.0, <-≤-trans m.1 e.2)

-- the last tick that is not after a time
abbrev pub floor : Time → ℕ
floor x = x.num / x.den

pub floor-≤ : (x : Time) → at_tick (floor x) ≤ᵀ x
floor-≤ x = record { le = omega (arith, div-mul-le_self x.num x.den) }

pub floor-< : (x : Time) → x <ᵀ at_tick (suc (floor x))
floor-< x = record { lt = omega (arith, lt-div-mul-add {a = x.num} x.some) }
