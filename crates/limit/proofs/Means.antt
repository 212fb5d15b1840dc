-- Limits from numbers: what they say of two times, in the form of the functions' contracts, and how small they are.
use mathlib.Core.Path.{◌≡◌, sym, subst}
use Prim.Native.Nat.{ℕ, ◌≤◌}
use lib.IntN.{pos, neg_ℤ}
use Rattle.signed.proofs.Integers.{arithZ, neg, size}
use Rattle.limit.specs.Limit.{Limit, most, least, less, more, IsMost, IsLeast, IsLess, IsMore, Small}
use Rattle.limit.proofs.Common.{within_most, within_least, within_less, within_more}

pub most_means : (n : ℕ) {l : Limit} → l ≡ most n → IsMost n l
most_means n e = subst (IsMost n) (sym e) (record { within = within_most n })

pub least_means : (n : ℕ) {l : Limit} → l ≡ least n → IsLeast n l
least_means n e = subst (IsLeast n) (sym e) (record { within = within_least n })

pub less_means : (n : ℕ) {l : Limit} → l ≡ less n → IsLess n l
less_means n e = subst (IsLess n) (sym e) (record { within = within_less n })

pub more_means : (n : ℕ) {l : Limit} → l ≡ more n → IsMore n l
more_means n e = subst (IsMore n) (sym e) (record { within = within_more n })

-- where the number is small, so is the limit, reached or not
pub small_most : {n m : ℕ} → n ≤ m → Small m (most n)
small_most h = h

pub small_least : {n m : ℕ} → n ≤ m → Small m (least n)
small_least {n} h = omega (arithZ, neg (pos n), size (neg_ℤ (pos n)))
