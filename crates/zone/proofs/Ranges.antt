-- The ranges that the operations hand on to each other.
use Prim.Native.Nat.{ℕ, suc, ◌+◌, ◌≤◌}
use native.Mathlib.Omega.{arith}
use lib.IntN.{pos, neg_ℤ, ◌+ℤ◌, ◌-ℤ◌}
use lib.Signed.{mag}
use Rattle.signed.proofs.Integers.{arithZ, sum, diff, neg, size}
use Rattle.limit.specs.declared.Limit.{Limit}
use Rattle.limit.specs.Limit.{◌⊕◌, lesser, value, Small}
use Rattle.zone.specs.Zone.{Zone, tighter, both, limited, everything, Ranged}
use Rattle.limit.proofs.Linear.{sum_value}
use Rattle.limit.proofs.Order.{lesser_of}

pub small_sum : {n : ℕ} (l m : Limit) → Small n l → Small n m → Small (suc (n + n)) (l ⊕ m)
small_sum {n} l m h k = rw (sum_value l m) (omega (arithZ, sum (value l) (value m), size (value l), size (value m), size (value l +ℤ value m)))

small_more : {n k : ℕ} (l : Limit) → n ≤ k → Small n l → Small k l
small_more l h s = omega arith

pub ranged_both : {n : ℕ} (z w : Zone) → Ranged n z → Ranged n w → Ranged n (both z w)
unfolding both
ranged_both {n} z w h k =
    record {
      start = lesser_of (Small n) h.start k.start;
      nstart = lesser_of (Small n) h.nstart k.nstart;
      end = lesser_of (Small n) h.end k.end;
      nend = lesser_of (Small n) h.nend k.nend;
      length = lesser_of (Small n) h.length k.length;
      nlength = lesser_of (Small n) h.nlength k.nlength;
    }

pub ranged_tighter : {n : ℕ} (z : Zone) → Ranged n z → Ranged (suc (n + n)) (tighter z)
unfolding tighter
ranged_tighter {n} z h =
    record {
      start = or_sum z.start z.nlength z.end h.start h.nlength h.end;
      nstart = or_sum z.nstart z.nend z.length h.nstart h.nend h.length;
      end = or_sum z.end z.length z.start h.end h.length h.start;
      nend = or_sum z.nend z.nstart z.nlength h.nend h.nstart h.nlength;
      length = or_sum z.length z.end z.nstart h.length h.end h.nstart;
      nlength = or_sum z.nlength z.start z.nend h.nlength h.start h.nend;
    }
  where
    or_sum : (l a b : Limit) → Small n l → Small n a → Small n b → Small (suc (n + n)) (lesser l (a ⊕ b))
    or_sum l a b s p q = lesser_of (Small (suc (n + n))) (small_more l (omega arith) s) (small_sum a b p q)

pub ranged_limited : {n : ℕ} (z : Zone) (l s : Limit) → Ranged n z → Small n l → Small n s → Ranged n (limited z l s)
unfolding limited
ranged_limited {n} z l s h p q =
    record {
      start = h.start;
      nstart = h.nstart;
      end = h.end;
      nend = h.nend;
      length = lesser_of (Small n) h.length p;
      nlength = lesser_of (Small n) h.nlength q;
    }

pub ranged_everything : {n : ℕ} (from to : ℕ) → from ≤ n → to ≤ n → Ranged n (everything from to)
unfolding everything
ranged_everything {n} from to h k =
    record {
      start = k;
      nstart = negated;
      end = k;
      nend = negated;
      length = omega (arithZ, diff (pos to) (pos from), size (pos to -ℤ pos from));
      nlength = omega arith;
    }
  where
    negated : mag (neg_ℤ (pos from)) ≤ n
    negated = omega (arithZ, neg (pos from), size (neg_ℤ (pos from)))
