-- The order of limits: a total preorder, with which the sum goes.
use mathlib.Core.Path.{◌≡◌, refl, ap}
use mathlib.Core.Bool.{cond}
use Prim.Native.Nat.{◌+◌, ◌*◌, ◌≤◌}
use native.Mathlib.Decide.{dec_le}
use native.Mathlib.Omega.{arith}
use lib.Dec.{T_not}
use lib.IntN.{+ℤ_comm, +ℤ_assoc}
use Rattle.limit.specs.Limit.{Limit, AtMost, Below, at_most, ◌≤ᴸ◌, ◌⊕◌, lesser, greater, nought}
use Rattle.limit.proofs.Linear.{up, dn, un, un_le, le_lin, lin_le, sum_ud, sum_un, nought_up, nought_dn, nought_un, test}

pub ≤-refl : (l : Limit) → l ≤ᴸ l
≤-refl l = lin_le (omega arith)

pub ≤_trans : {l m n : Limit} → l ≤ᴸ m → m ≤ᴸ n → l ≤ᴸ n
≤_trans h k = lin_le (omega (arith, le_lin h, le_lin k))

pub not≤ : {l m : Limit} → ¬ (l ≤ᴸ m) → m ≤ᴸ l
not≤ {l} {m} h = go (dec_le (2 * up m + 2 * dn l + un l) (2 * up l + 2 * dn m + un m))
  where
    go : Dec (2 * up m + 2 * dn l + un l ≤ 2 * up l + 2 * dn m + un m) → m ≤ᴸ l
    go (yes g) = lin_le g
    go (no g) = absurd (h (lin_le (omega arith)))

pub ⊕-mono : {l m l' m' : Limit} → l ≤ᴸ l' → m ≤ᴸ m' → l ⊕ m ≤ᴸ l' ⊕ m'
⊕-mono {l} {m} {l'} {m'} h k = lin_le (omega (arith, le_lin h, le_lin k, sum_ud l m, sum_ud l' m', sum_un l m, sum_un l' m', un_le l, un_le m, un_le l', un_le m'))

pub ⊕-comm : (l m : Limit) → l ⊕ m ≡ m ⊕ l
unfolding ◌⊕◌
⊕-comm (AtMost a) (AtMost b) = ap AtMost (+ℤ_comm a b)
⊕-comm (AtMost a) (Below b) = ap Below (+ℤ_comm a b)
⊕-comm (Below a) (AtMost b) = ap Below (+ℤ_comm a b)
⊕-comm (Below a) (Below b) = ap Below (+ℤ_comm a b)

pub ⊕-assoc : (l m n : Limit) → (l ⊕ m) ⊕ n ≡ l ⊕ (m ⊕ n)
unfolding ◌⊕◌
⊕-assoc (AtMost a) (AtMost b) (AtMost c) = ap AtMost (+ℤ_assoc a b c)
⊕-assoc (AtMost a) (AtMost b) (Below c) = ap Below (+ℤ_assoc a b c)
⊕-assoc (AtMost a) (Below b) (AtMost c) = ap Below (+ℤ_assoc a b c)
⊕-assoc (AtMost a) (Below b) (Below c) = ap Below (+ℤ_assoc a b c)
⊕-assoc (Below a) (AtMost b) (AtMost c) = ap Below (+ℤ_assoc a b c)
⊕-assoc (Below a) (AtMost b) (Below c) = ap Below (+ℤ_assoc a b c)
⊕-assoc (Below a) (Below b) (AtMost c) = ap Below (+ℤ_assoc a b c)
⊕-assoc (Below a) (Below b) (Below c) = ap Below (+ℤ_assoc a b c)

pub ⊕-nought : (l : Limit) → l ≤ᴸ l ⊕ nought
⊕-nought l = lin_le (omega (arith, sum_ud l nought, sum_un l nought, nought_up, nought_dn, nought_un))

pub nought-⊕ : (l : Limit) → l ≤ᴸ nought ⊕ l
nought-⊕ l = lin_le (omega (arith, sum_ud nought l, sum_un nought l, nought_up, nought_dn, nought_un))

pub off_nought : (l : Limit) → l ⊕ nought ≤ᴸ l
off_nought l = lin_le (omega (arith, sum_ud l nought, sum_un l nought, nought_up, nought_dn, nought_un))

-- ---- the lesser of two

pub lesser_l : (l m : Limit) → lesser l m ≤ᴸ l
unfolding lesser
lesser_l l m = test (at_most l m) (λ c. cond c l m ≤ᴸ l) (λ t. ≤-refl l) (λ t. not≤ (λ h. T_not (at_most l m) t h.le))

pub lesser_r : (l m : Limit) → lesser l m ≤ᴸ m
unfolding lesser
lesser_r l m = test (at_most l m) (λ c. cond c l m ≤ᴸ m) (λ t. record { le = t }) (λ t. ≤-refl m)

pub lesser_is_l : {l m : Limit} → l ≤ᴸ m → lesser l m ≡ l
unfolding lesser
lesser_is_l {l} {m} h = test (at_most l m) (λ c. cond c l m ≡ l) (λ t. refl) (λ t. absurd (T_not (at_most l m) t h.le))

-- what holds of both holds of the lesser
pub lesser_of : (P : Limit → Type 0) {l m : Limit} → P l → P m → P (lesser l m)
unfolding lesser
lesser_of P {l} {m} p q = test (at_most l m) (λ c. P (cond c l m)) (λ t. p) (λ t. q)

-- ---- the greater

pub greater_l : (l m : Limit) → l ≤ᴸ greater l m
unfolding greater
greater_l l m = test (at_most l m) (λ c. l ≤ᴸ cond c m l) (λ t. record { le = t }) (λ t. ≤-refl l)

pub greater_r : (l m : Limit) → m ≤ᴸ greater l m
unfolding greater
greater_r l m = test (at_most l m) (λ c. m ≤ᴸ cond c m l) (λ t. ≤-refl m) (λ t. not≤ (λ h. T_not (at_most l m) t h.le))

-- ---- ways through several times: what lies on a way and is not negative may be left out

pub flip : (l m : Limit) → nought ≤ᴸ l ⊕ m → nought ≤ᴸ m ⊕ l
flip l m h = rw (⊕-comm m l) h

pub fst : (x y u : Limit) → nought ≤ᴸ y ⊕ u → x ≤ᴸ (x ⊕ y) ⊕ u
fst x y u h = rw ⊕-assoc (≤_trans (⊕-nought x) (⊕-mono (≤-refl x) h))

pub snd : (x y u : Limit) → nought ≤ᴸ x ⊕ y → u ≤ᴸ x ⊕ (y ⊕ u)
snd x y u h = rw (← ⊕-assoc x y u) (≤_trans (nought-⊕ u) (⊕-mono h (≤-refl u)))

pub right : (x y u v : Limit) → y ≤ᴸ u ⊕ v → x ⊕ y ≤ᴸ (x ⊕ u) ⊕ v
right x y u v h = rw (⊕-assoc x u v) (⊕-mono (≤-refl x) h)

pub left : (x y u v : Limit) → y ≤ᴸ u ⊕ v → y ⊕ x ≤ᴸ u ⊕ (v ⊕ x)
left x y u v h = rw (← ⊕-assoc u v x) (⊕-mono h (≤-refl x))

pub mid : (x y u v : Limit) → nought ≤ᴸ y ⊕ u → x ⊕ v ≤ᴸ (x ⊕ y) ⊕ (u ⊕ v)
mid x y u v h = rw (⊕-assoc x y (u ⊕ v)) (⊕-mono (≤-refl x) (snd y u v h))

pub keep_l : (x y u v : Limit) → nought ≤ᴸ (y ⊕ u) ⊕ v → x ≤ᴸ (x ⊕ y) ⊕ (u ⊕ v)
keep_l x y u v h = fst x y (u ⊕ v) (rw (← ⊕-assoc y u v) h)

pub keep_r : (x y u v : Limit) → nought ≤ᴸ x ⊕ (y ⊕ u) → v ≤ᴸ (x ⊕ y) ⊕ (u ⊕ v)
keep_r x y u v h = snd (x ⊕ y) u v (rw (⊕-assoc x y u) h)

pub lesser_2 : (l m l' m' t : Limit) → t ≤ᴸ l ⊕ l' → t ≤ᴸ l ⊕ m' → t ≤ᴸ m ⊕ l' → t ≤ᴸ m ⊕ m' → t ≤ᴸ lesser l m ⊕ lesser l' m'
lesser_2 l m l' m' t a b c d =
    lesser_of (λ x. t ≤ᴸ x ⊕ lesser l' m') {l = l} {m = m} (lesser_of (λ y. t ≤ᴸ l ⊕ y) {l = l'} {m = m'} a b) (lesser_of (λ y. t ≤ᴸ m ⊕ y) {l = l'} {m = m'} c d)
