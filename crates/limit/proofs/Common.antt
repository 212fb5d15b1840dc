-- Times over a common denominator: what `Within` says there is linear (`KeepsOver`), and the two agree (`bridge`).
use mathlib.Core.Path.{◌≡◌, refl, sym, ap}
use mathlib.Core.Logic.{◌↔◌}
use Prim.Native.Nat.{ℕ, zero, suc, ◌+◌, ◌*◌, ◌<◌, ◌≤◌}
use native.Mathlib.Decide.{dec_le}
use native.Mathlib.Nat.{mul-le-mul_left, mul-le-mul_right, mul-lt-mul_of_pos_left, le_of_mul-le-mul_left, lt_of_mul-lt-mul_left, mul-pos}
use native.Mathlib.Omega.{arith}
use lib.IntN.{pos, neg_ℤ}
use Rattle.signed.proofs.Integers.{neg}
use Rattle.signed.proofs.Integers as Z
use Rattle.limit.specs.Time.{Time, origin, at_tick, later, ◌≤ᵀ◌, ◌<ᵀ◌}
use Rattle.limit.specs.Limit.{Limit, Below, Within, ◌≤ᴸ◌, ◌⊕◌, nought, most, least, less, more}
use Rattle.limit.proofs.Linear.{up, dn, un, un_le, within_lin, le_lin, lin_le, sum_ud, sum_un, nought_up, nought_dn, nought_un}

-- X/D − Y/D keeps to the limit
pub record KeepsOver (D : ℕ) (l : Limit) (X Y : ℕ) : Type 0 where
  pub keeps : X + dn l * D + un l ≤ Y + up l * D

-- the time x is X/D
pub record Is (X D : ℕ) (x : Time) : Type 0 where
  pub same : X * x.den ≡ x.num * D

cross : (u c d A B A' B' : ℕ) → u ≤ 1 → 0 < c → 0 < d → c * A ≡ d * A' → c * B ≡ d * B' → A + u ≤ B → A' + u ≤ B'
cross zero c d A B A' B' hu hc hd p q h =
    let k : d * A' ≤ d * B' = omega (arith, mul-le-mul_left c h) in
    omega (arith, le_of_mul-le-mul_left {m = A'} {n = B'} {k = d} k hd)
cross (suc zero) c d A B A' B' hu hc hd p q h =
    let g : A < B = omega arith in
    let k : d * A' < d * B' = omega (arith, mul-lt-mul_of_pos_left g hc) in
    omega (arith, lt_of_mul-lt-mul_left d {m = A'} {n = B'} k)
cross (suc (suc u)) c d A B A' B' hu hc hd p q h = absurd (omega arith)

pub bridge : (l : Limit) (x y : Time) {X Y D : ℕ} → 0 < D → Is X D x → Is Y D y → Within l x y ↔ KeepsOver D l X Y
bridge l x y {X} {Y} {D} hD ix iy =
    let N : ℕ = x.den in
    let M : ℕ = y.den in
    let hN : 0 < x.den = x.some in
    let hM : 0 < y.den = y.some in
    let hx : X * x.den * y.den ≡ x.num * D * y.den = ap (λ (k : ℕ). k * y.den) ix.same in
    let hy : Y * y.den * x.den ≡ y.num * D * x.den = ap (λ (k : ℕ). k * x.den) iy.same in
    let p : D * (x.num * y.den + dn l * (x.den * y.den)) ≡ (x.den * y.den) * (X + dn l * D) = omega arith in
    let q : D * (y.num * x.den + up l * (x.den * y.den)) ≡ (x.den * y.den) * (Y + up l * D) = omega arith in
    let hNM : 0 < x.den * y.den = mul-pos hN hM in (
      λ h. record { keeps = cross (un l) D (x.den * y.den) _ _ _ _ (un_le l) hD hNM p q ((within_lin l x y).0 h) },
      λ h. (within_lin l x y).1 (cross (un l) (x.den * y.den) D _ _ _ _ (un_le l) hNM hD (sym p) (sym q) h.keeps),
    )

pub Is_origin : (D : ℕ) → Is 0 D origin
Is_origin D = record { same = omega arith }

-- X/D is also kX/kD
pub Is_scale : {X D : ℕ} {x : Time} (k : ℕ) → Is X D x → Is (k * X) (k * D) x
Is_scale {X} {D} {x} k i = record { same = omega (arith, ap (λ (n : ℕ). k * n) i.same) }

pub over_scale : {l : Limit} {X Y D : ℕ} (k : ℕ) → 0 < k → KeepsOver D l X Y → KeepsOver (k * D) l (k * X) (k * Y)
over_scale {l} {X} {Y} {D} k hk h =
    record { keeps = omega (arith, mul-le-mul_left k h.keeps, mul-le-mul_left (un l) hk) }

-- ---- the rules of limits, over a common denominator

pub widen : {l m : Limit} {X Y D : ℕ} → 0 < D → l ≤ᴸ m → KeepsOver D l X Y → KeepsOver D m X Y
widen {l} {m} {X} {Y} {D} hD h k = go (dec_le (up l + dn m + 1) (up m + dn l))
  where
    go : Dec (up l + dn m + 1 ≤ up m + dn l) → KeepsOver D m X Y
    go (yes g) = record { keeps = omega (arith, k.keeps, un_le m, mul-le-mul_right D g) }
    go (no g) =
        let e : up l + dn m ≤ up m + dn l = omega (arith, le_lin h, un_le l) in
        record { keeps = omega (arith, k.keeps, un_le l, le_lin h, mul-le-mul_right D e) }

pub through : {l m : Limit} {X Y Z D : ℕ} → KeepsOver D l X Y → KeepsOver D m Y Z → KeepsOver D (l ⊕ m) X Z
through {l} {m} {X} {Y} {Z} {D} h k =
    record { keeps = omega (arith, h.keeps, k.keeps, sum_un l m, ap (λ (n : ℕ). n * D) (sum_ud l m)) }

pub self : {X D : ℕ} → KeepsOver D nought X X
self {X} {D} = record { keeps = rw (nought_up, nought_dn, nought_un) (omega arith) }

-- a way round that some time keeps to is not negative
pub round : {l : Limit} {X D : ℕ} → 0 < D → KeepsOver D l X X → nought ≤ᴸ l
round {l} {X} {D} hD h = lin_le (rw (nought_up, nought_dn, nought_un) (go (dec_le (dn l) (up l)) (dec_le (up l) (dn l))))
  where
    go : Dec (dn l ≤ up l) → Dec (up l ≤ dn l) → 2 * 0 + 2 * dn l + un l ≤ 2 * up l + 2 * 0 + 0
    go (yes a) (yes b) = omega (arith, h.keeps, mul-le-mul_right D b)
    go (yes a) (no b) = omega (arith, un_le l)
    go (no a) b =
        let c : up l + 1 ≤ dn l = omega arith in
        absurd (omega (arith, h.keeps, mul-le-mul_right D c))

-- ---- for times of any denominators

-- two times over the product of their denominators
module _ (x y : Time) where
  pub both_den : 0 < x.den * y.den
  both_den = mul-pos x.some y.some

  pub is_left : Is (x.num * y.den) (x.den * y.den) x
  is_left = record { same = omega arith }

  pub is_right : Is (y.num * x.den) (x.den * y.den) y
  is_right = record { same = omega arith }

pub within_widen : {l m : Limit} (x y : Time) → l ≤ᴸ m → Within l x y → Within m x y
within_widen {l} {m} x y h w =
    (bridge m x y (both_den x y) (is_left x y) (is_right x y)).1 (widen (both_den x y) h ((bridge l x y (both_den x y) (is_left x y) (is_right x y)).0 w))

pub within_through : (l m : Limit) (x y w : Time) → Within l x y → Within m y w → Within (l ⊕ m) x w
within_through l m x y w h k =
    let D : ℕ = x.den * y.den * w.den in
    let h0 : 0 < x.den * y.den * w.den = mul-pos (mul-pos x.some y.some) w.some in
    let ix : Is (x.num * y.den * w.den) (x.den * y.den * w.den) x = record { same = omega arith } in
    let iy : Is (y.num * x.den * w.den) (x.den * y.den * w.den) y = record { same = omega arith } in
    let iw : Is (w.num * x.den * y.den) (x.den * y.den * w.den) w = record { same = omega arith } in
    (bridge (l ⊕ m) x w h0 ix iw).1 (through ((bridge l x y h0 ix iy).0 h) ((bridge m y w h0 iy iw).0 k))

-- a time differs from itself by no less than 0
pub within_self : {l : Limit} (x : Time) → Within l x x → nought ≤ᴸ l
within_self {l} x w = round x.some ((bridge l x x x.some (record { same = refl }) (record { same = refl })).0 w)

-- no time is before the origin
pub from_0 : (x : Time) → Within nought origin x
from_0 x = (bridge nought origin x x.some (Is_origin x.den) (record { same = refl })).1 (record { keeps = rw (nought_up, nought_dn, nought_un) (omega arith) })

-- limits that say the order of two times
module _ (x y : Time) where
  pub within-≤ : Within nought x y ↔ x ≤ᵀ y
  unfolding up dn un
  within-≤ = (λ h. record { le = omega (arith, (within_lin nought x y).0 h) }, λ h. (within_lin nought x y).1 (omega (arith, h.le)))

  pub within-< : Within (Below (pos 0)) x y ↔ x <ᵀ y
  unfolding up dn un
  within-< = (λ h. record { lt = omega (arith, (within_lin (Below (pos 0)) x y).0 h) }, λ h. (within_lin (Below (pos 0)) x y).1 (omega (arith, h.lt)))

-- limits made of a number
module _ (n : ℕ) (x y : Time) where
  pub within_most : Within (most n) x y ↔ x ≤ᵀ later n y
  unfolding up dn un
  within_most = (λ h. record { le = omega (arith, (within_lin (most n) x y).0 h) }, λ h. (within_lin (most n) x y).1 (omega (arith, h.le)))

  -- −n counts down alone, times both denominators
  lowered : Z.dn (neg_ℤ (pos n)) * (x.den * y.den) ≡ n * (x.den * y.den)
  lowered = rw (neg (pos n)).1 refl

  not_raised : Z.up (neg_ℤ (pos n)) * (x.den * y.den) ≡ 0
  not_raised = rw (neg (pos n)).0 (omega arith)

  pub within_least : Within (least n) x y ↔ later n x ≤ᵀ y
  unfolding up dn un
  within_least =
      (λ h. record { le = omega (arith, lowered, not_raised, (within_lin (least n) x y).0 h) }, λ h. (within_lin (least n) x y).1 (omega (arith, lowered, not_raised, h.le)))

  pub within_less : Within (less n) x y ↔ x <ᵀ later n y
  unfolding up dn un
  within_less = (λ h. record { lt = omega (arith, (within_lin (less n) x y).0 h) }, λ h. (within_lin (less n) x y).1 (omega (arith, h.lt)))

  pub within_more : Within (more n) x y ↔ later n x <ᵀ y
  unfolding up dn un
  within_more =
      (λ h. record { lt = omega (arith, lowered, not_raised, (within_lin (more n) x y).0 h) }, λ h. (within_lin (more n) x y).1 (omega (arith, lowered, not_raised, h.lt)))

-- the same of a time and a tick
module _ (n : ℕ) (x : Time) where
  pub within_to : Within (most n) x origin ↔ x ≤ᵀ at_tick n
  within_to = (λ h. record { le = omega (arith, ((within_most n x origin).0 h).le) }, λ h. (within_most n x origin).1 (record { le = omega (arith, h.le) }))

  pub within_from : Within (least n) origin x ↔ at_tick n ≤ᵀ x
  within_from = (λ h. record { le = omega (arith, ((within_least n origin x).0 h).le) }, λ h. (within_least n origin x).1 (record { le = omega (arith, h.le) }))
