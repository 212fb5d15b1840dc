-- Linear arithmetic on ℤ for `omega`, which reads ℕ alone. Each z is up z − dn z, with up z and dn z in ℕ and one of them 0.
--     omega (arithZ, sum a b, neg c, ..)
-- reads a ≤ℤ b, a <ℤ b, a ≡ b and the tests lt_z and le_z, as hypotheses and as the goal. A sum, a negation or a product is an unknown
-- to omega: list one fact for each that occurs, sum a b, diff a b, neg a, times a n, half z, size z (for `mag z`).
use mathlib.Core.Path.{◌≡◌, refl, sym, ap, subst, ◌∙◌}
use mathlib.Core.Bool.{Bool, true, false, cond}
use Prim.Native.Nat.{ℕ, zero, suc, pred, ◌+◌, ◌-◌, ◌*◌, ◌≤◌, ◌<◌, min}
use native.Mathlib.Omega.{arith}
use lib.Dec.{T, ltb}
use lib.IntN.{ℤ, pos, negsuc, sub_ℕ, ◌+ℤ◌, ◌-ℤ◌, ◌*ℤ◌, neg_ℤ}
use lib.Signed.{mag, lt_z, le_z, shr_z, ◌≤ℤ◌, ◌<ℤ◌}
use borrow.Author.Tests.{ltb-true, ltb-false, leb-true, leb-false, lt-ltb, le-ltb, le-leb, lt-leb}

abbrev pub up : ℤ → ℕ
up (pos n) = n
up (negsuc n) = 0

abbrev pub dn : ℤ → ℕ
dn (pos n) = 0
dn (negsuc n) = suc n

-- ---- one number

pub apart : (z : ℤ) → min (up z) (dn z) ≡ 0
apart (pos n) = omega arith
apart (negsuc n) = omega arith

-- `mag z` is n both for n and for −(n + 1)
pub size : (z : ℤ) → (mag z ≡ up z + pred (dn z)) × (min (up z) (dn z) ≡ 0)
size (pos n) = (omega arith, omega arith)
size (negsuc n) = (omega arith, omega arith)

-- the half, rounded down
pub half : (z : ℤ) → (2 * up (shr_z z 2) + dn z ≤ up z + 2 * dn (shr_z z 2)) × (up z + 2 * dn (shr_z z 2) ≤ 2 * up (shr_z z 2) + dn z + 1)
half (pos n) = (omega arith, omega arith)
half (negsuc n) = (omega arith, omega arith)

-- ---- sums, negations, products

sub_at : (a b : ℕ) (t : Bool) → ltb a b ≡ t → up (cond t (negsuc (b - suc a)) (pos (a - b))) + b ≡ a + dn (cond t (negsuc (b - suc a)) (pos (a - b)))
sub_at a b true e = omega (arith, ltb-true a b e)
sub_at a b false e = omega (arith, ltb-false a b e)

sub : (a b : ℕ) → up (sub_ℕ a b) + b ≡ a + dn (sub_ℕ a b)
sub a b = sub_at a b (ltb a b) refl

pub sum : (a b : ℤ) → up (a +ℤ b) + (dn a + dn b) ≡ (up a + up b) + dn (a +ℤ b)
sum (pos a) (pos b) = omega arith
sum (pos a) (negsuc b) = omega (arith, sub a (suc b))
sum (negsuc a) (pos b) = omega (arith, sub b (suc a))
sum (negsuc a) (negsuc b) = omega arith

pub neg : (a : ℤ) → (up (neg_ℤ a) ≡ dn a) × (dn (neg_ℤ a) ≡ up a)
neg (pos zero) = (refl, refl)
neg (pos (suc n)) = (refl, refl)
neg (negsuc n) = (refl, refl)

pub diff : (a b : ℤ) → up (a -ℤ b) + (dn a + up b) ≡ (up a + dn b) + dn (a -ℤ b)
diff a b = omega (arith, sum a (neg_ℤ b), neg b)

pub times : (a : ℤ) (n : ℕ) → (up (a *ℤ pos n) ≡ up a * n) × (dn (a *ℤ pos n) ≡ dn a * n)
times (pos a) n = (refl, omega arith)
times (negsuc a) n = ((neg (pos (suc a * n))).0 ∙ omega arith, (neg (pos (suc a * n))).1)

-- ---- orders and their tests, both ways

pub T_is : {t : Bool} → T t → t ≡ true
T_is {t = true} h = refl
T_is {t = false} h = absurd h

is_T : {t : Bool} → t ≡ true → T t
is_T {t} h = subst T (sym h) tt

pub lt_z_true : (a b : ℤ) → lt_z a b ≡ true → up a + dn b < up b + dn a
lt_z_true (pos a) (pos b) e = omega (arith, ltb-true a b e)
lt_z_true (pos a) (negsuc b) e = absurd (subst T (sym e) tt)
lt_z_true (negsuc a) (pos b) e = omega arith
lt_z_true (negsuc a) (negsuc b) e = omega (arith, ltb-true b a e)

pub lt_z_false : (a b : ℤ) → lt_z a b ≡ false → up b + dn a ≤ up a + dn b
lt_z_false (pos a) (pos b) e = omega (arith, ltb-false a b e)
lt_z_false (pos a) (negsuc b) e = omega arith
lt_z_false (negsuc a) (pos b) e = absurd (subst T e tt)
lt_z_false (negsuc a) (negsuc b) e = omega (arith, ltb-false b a e)

pub le_z_true : (a b : ℤ) → le_z a b ≡ true → up a + dn b ≤ up b + dn a
le_z_true (pos a) (pos b) e = omega (arith, leb-true a b e)
le_z_true (pos a) (negsuc b) e = absurd (subst T (sym e) tt)
le_z_true (negsuc a) (pos b) e = omega arith
le_z_true (negsuc a) (negsuc b) e = omega (arith, leb-true b a e)

pub le_z_false : (a b : ℤ) → le_z a b ≡ false → up b + dn a < up a + dn b
le_z_false (pos a) (pos b) e = omega (arith, leb-false a b e)
le_z_false (pos a) (negsuc b) e = omega arith
le_z_false (negsuc a) (pos b) e = absurd (subst T e tt)
le_z_false (negsuc a) (negsuc b) e = omega (arith, leb-false b a e)

pub lt_lt_z : (a b : ℤ) → up a + dn b < up b + dn a → lt_z a b ≡ true
lt_lt_z (pos a) (pos b) h = lt-ltb a b (omega arith)
lt_lt_z (pos a) (negsuc b) h = absurd (omega arith)
lt_lt_z (negsuc a) (pos b) h = refl
lt_lt_z (negsuc a) (negsuc b) h = lt-ltb b a (omega arith)

pub le_lt_z : (a b : ℤ) → up b + dn a ≤ up a + dn b → lt_z a b ≡ false
le_lt_z (pos a) (pos b) h = le-ltb a b (omega arith)
le_lt_z (pos a) (negsuc b) h = refl
le_lt_z (negsuc a) (pos b) h = absurd (omega arith)
le_lt_z (negsuc a) (negsuc b) h = le-ltb b a (omega arith)

pub le_le_z : (a b : ℤ) → up a + dn b ≤ up b + dn a → le_z a b ≡ true
le_le_z (pos a) (pos b) h = le-leb a b (omega arith)
le_le_z (pos a) (negsuc b) h = absurd (omega arith)
le_le_z (negsuc a) (pos b) h = refl
le_le_z (negsuc a) (negsuc b) h = le-leb b a (omega arith)

pub lt_le_z : (a b : ℤ) → up b + dn a < up a + dn b → le_z a b ≡ false
lt_le_z (pos a) (pos b) h = lt-leb a b (omega arith)
lt_le_z (pos a) (negsuc b) h = refl
lt_le_z (negsuc a) (pos b) h = absurd (omega arith)
lt_le_z (negsuc a) (negsuc b) h = lt-leb b a (omega arith)

pub T_lt_z : (a b : ℤ) → T (lt_z a b) → up a + dn b < up b + dn a
T_lt_z a b t = lt_z_true a b (T_is t)

pub T_le_z : (a b : ℤ) → T (le_z a b) → up a + dn b ≤ up b + dn a
T_le_z a b t = le_z_true a b (T_is t)

pub lt_z_T : (a b : ℤ) → up a + dn b < up b + dn a → T (lt_z a b)
lt_z_T a b h = is_T (lt_lt_z a b h)

pub le_z_T : (a b : ℤ) → up a + dn b ≤ up b + dn a → T (le_z a b)
le_z_T a b h = is_T (le_le_z a b h)

pub from-≤ : (a b : ℤ) → a ≤ℤ b → up a + dn b ≤ up b + dn a
from-≤ a b h = T_le_z a b h.le

pub from-< : (a b : ℤ) → a <ℤ b → up a + dn b < up b + dn a
from-< a b h = T_lt_z a b h.lt

pub to-≤ : (a b : ℤ) → up a + dn b ≤ up b + dn a → a ≤ℤ b
to-≤ a b h = record { le = le_z_T a b h }

pub to-< : (a b : ℤ) → up a + dn b < up b + dn a → a <ℤ b
to-< a b h = record { lt = lt_z_T a b h }

pub from-≡ : (a b : ℤ) → a ≡ b → up a + dn b ≡ up b + dn a
from-≡ a b e = ap (λ (z : ℤ). up a + dn z) (sym e) ∙ ap (λ (z : ℤ). up z + dn a) e

pub to-≡ : (a b : ℤ) → up a + dn b ≡ up b + dn a → a ≡ b
to-≡ (pos a) (pos b) h = let e : a ≡ b = omega arith in ap pos e
to-≡ (pos a) (negsuc b) h = absurd (omega arith)
to-≡ (negsuc a) (pos b) h = absurd (omega arith)
to-≡ (negsuc a) (negsuc b) h = let e : a ≡ b = omega arith in ap negsuc e

pub ruleset arithZ =
    (arith, lt_z_true, lt_z_false, le_z_true, le_z_false, lt_lt_z, le_lt_z, le_le_z, lt_le_z, T_lt_z, T_le_z, lt_z_T, le_z_T, from-≤, from-<, to-≤, to-<, from-≡, to-≡)
