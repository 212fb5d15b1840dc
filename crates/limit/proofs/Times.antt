-- The order of times, of any denominators, and that a limit does not tell equal times apart.
use mathlib.Core.Path.{sym}
use mathlib.Core.Logic.{◌⊎◌, inl, inr}
use Prim.Native.Nat.{ℕ, ◌*◌, ◌≤◌}
use native.Mathlib.Decide.{dec_le}
use native.Mathlib.Omega.{arith}
use Rattle.limit.specs.Time.{Time, at_tick, ◌≤ᵀ◌, ◌<ᵀ◌, ◌≈ᵀ◌}
use Rattle.limit.specs.Limit.{Limit, Within, ◌≤ᴸ◌, ◌⊕◌, nought}
use Rattle.limit.proofs.Linear.{lin_le, sum_ud, sum_un, nought_up, nought_dn, nought_un}
use Rattle.limit.proofs.Common.{within_widen, within_through, within-≤}

-- a way to or from an equal time adds nothing
nought_left : (l : Limit) → nought ⊕ l ≤ᴸ l
nought_left l = lin_le (omega (arith, sum_ud nought l, sum_un nought l, nought_up, nought_dn, nought_un))

nought_right : (l : Limit) → l ⊕ nought ≤ᴸ l
nought_right l = lin_le (omega (arith, sum_ud l nought, sum_un l nought, nought_up, nought_dn, nought_un))

pub ≤-refl : (x : Time) → x ≤ᵀ x
≤-refl x = record { le = omega arith }

pub ≤_trans : {x y z : Time} → x ≤ᵀ y → y ≤ᵀ z → x ≤ᵀ z
≤_trans {x} {y} {z} h k = (within-≤ x z).0 (within_widen x z (nought_left nought) (within_through nought nought x y z ((within-≤ x y).1 h) ((within-≤ y z).1 k)))

pub ≤-total : (x y : Time) → (x ≤ᵀ y) ⊎ (y <ᵀ x)
≤-total x y = go (dec_le (x.num * y.den) (y.num * x.den))
  where
    go : Dec (x.num * y.den ≤ y.num * x.den) → (x ≤ᵀ y) ⊎ (y <ᵀ x)
    go (yes h) = inl (record { le = h })
    go (no h) = inr (record { lt = omega arith })

pub <-≤ : {x y : Time} → x <ᵀ y → x ≤ᵀ y
<-≤ h = record { le = omega (arith, h.lt) }

pub ≈-≤ : {x y : Time} → x ≈ᵀ y → (x ≤ᵀ y) × (y ≤ᵀ x)
≈-≤ h = (record { le = omega (arith, h.same) }, record { le = omega (arith, h.same) })

pub ≤-≈ : {x y : Time} → x ≤ᵀ y → y ≤ᵀ x → x ≈ᵀ y
≤-≈ h k = record { same = omega (arith, h.le, k.le) }

pub ≈-refl : (x : Time) → x ≈ᵀ x
≈-refl x = record { same = omega arith }

pub ≈-sym : {x y : Time} → x ≈ᵀ y → y ≈ᵀ x
≈-sym h = record { same = sym h.same }

pub ≈-trans : {x y z : Time} → x ≈ᵀ y → y ≈ᵀ z → x ≈ᵀ z
≈-trans h k = ≤-≈ (≤_trans (≈-≤ h).0 (≈-≤ k).0) (≤_trans (≈-≤ k).1 (≈-≤ h).1)

pub tick-≤ : {m n : ℕ} → m ≤ n → at_tick m ≤ᵀ at_tick n
tick-≤ h = record { le = omega arith }

pub within_same : (l : Limit) {x y u v : Time} → x ≈ᵀ u → y ≈ᵀ v → Within l x y → Within l u v
within_same l {x} {y} {u} {v} p q h =
    within_widen u v (nought_right l) (within_through l nought u y v (within_widen u y (nought_left l) (within_through nought l u x y ((within-≤ u x).1 (≈-≤ p).1) h)) ((within-≤ y v).1 (≈-≤ q).0))
