-- The numbers of a closed zone whose end is at most d lie between −d and d: what a program's integers have to hold. And what inside
-- ticks from..to says of a closed zone's limits.
use mathlib.Core.Logic.{◌↔◌}
use Prim.Native.Nat.{ℕ, ◌+◌, ◌≤◌}
use native.Mathlib.Omega.{arith}
use lib.IntN.{pos, neg_ℤ}
use Rattle.signed.proofs.Integers.{size}
use Rattle.limit.specs.Time.{origin}
use Rattle.limit.specs.declared.Limit.{Limit}
use Rattle.limit.specs.declared.Limit.TheVariants.{AtMost}
use Rattle.limit.specs.Limit.{◌≤ᴸ◌, ◌⊕◌, nought, value, Small}
use Rattle.zone.specs.Zone.{Zone, Inside, on-nstart, on-end, Ranged}
use Rattle.limit.proofs.Linear.{up, dn, un_le, le_lin, sum_ud, one_side, nought_up, nought_dn}
use Rattle.limit.proofs.Common.{within_widen, within-≤, within_to, within_from}
use Rattle.zone.proofs.Closed.{Closed}
use Rattle.zone.proofs.Sharp.{sharp, by_contra}

pub num_le : {l m : Limit} → l ≤ᴸ m → up l + dn m ≤ up m + dn l
num_le {l} {m} h = omega (arith, le_lin h, un_le l)

small : {d : ℕ} (l : Limit) → up l ≤ d + dn l → dn l ≤ d + up l → Small d l
unfolding up dn
small l a b = omega (arith, one_side l, size (value l))

module _ {z : Zone} (h : Closed z) where
  -- inside, said of two limits
  pub inside_is : (from to : ℕ) → Inside from to z ↔ ((z.nstart ≤ᴸ AtMost (neg_ℤ (pos from))) × (z.end ≤ᴸ AtMost (pos to)))
  inside_is from to = (
    λ i. (
      by_contra (λ n. let r = sharp h on-nstart _ n in r.lost ((within_from from r.from).1 (i.inside r.from r.to r.member).0)),
      by_contra (λ n. let r = sharp h on-end _ n in r.lost ((within_to to r.to).1 (i.inside r.from r.to r.member).2)),
    ),
    λ b. record {
      inside = λ x y p. (
        (within_from from x).0 (within_widen origin x b.0 p.nstart),
        (within-≤ x y).0 (within_widen x y h.onward p.nlength),
        (within_to to y).0 (within_widen y origin b.1 p.end),
      );
    },
  )

  module _ {d : ℕ} (g : z.end ≤ᴸ AtMost (pos d)) where
    e1 : up z.end ≤ d + dn z.end
    e1 = unfold up dn in omega (arith, num_le g)

    o1 : up z.nlength ≤ dn z.nlength
    o1 = omega (arith, num_le h.onward, nought_up, nought_dn)

    a1 : up z.nstart ≤ dn z.nstart
    a1 = omega (arith, num_le h.after_0, nought_up, nought_dn)

    s1 : up z.start ≤ d + dn z.start
    s1 = omega (arith, num_le h.start, sum_ud z.nlength z.end, o1, e1)

    b1 : up z.nend ≤ dn z.nend
    b1 = omega (arith, num_le h.nend, sum_ud z.nstart z.nlength, a1, o1)

    l1 : up z.length ≤ d + dn z.length
    l1 = omega (arith, num_le h.length, sum_ud z.end z.nstart, e1, a1)

    -- a limit and its opposite
    round_trip : (l m : Limit) → nought ≤ᴸ l ⊕ m → dn l + dn m ≤ up l + up m
    round_trip l m k = omega (arith, num_le k, sum_ud l m, nought_up, nought_dn)

    pub range : Ranged d z
    range =
        let ss = round_trip z.start z.nstart h.round_start in
        let ee = round_trip z.end z.nend h.round_end in
        let ll = round_trip z.length z.nlength h.round_length in
        record {
          start = small z.start s1 (omega (arith, a1));
          nstart = small z.nstart (omega (arith, a1)) (omega (arith, s1));
          end = small z.end e1 (omega (arith, b1));
          nend = small z.nend (omega (arith, b1)) (omega (arith, e1));
          length = small z.length l1 (omega (arith, o1));
          nlength = small z.nlength (omega (arith, o1)) (omega (arith, l1));
        }
