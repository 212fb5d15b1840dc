-- No limit of a closed zone can be lowered without losing a stretch (`sharp`).
use mathlib.Core.Bool.{Bool, true, false}
use Prim.Native.Nat.{◌+◌, ◌*◌, ◌≤◌}
use native.Mathlib.Omega.{arith}
use lib.Dec.{T}
use Rattle.limit.specs.Time.{Time, origin}
use Rattle.limit.specs.declared.Limit.{Limit}
use Rattle.limit.specs.Limit.{Within, at_most, ◌≤ᴸ◌, ◌⊕◌, nought, broken}
use Rattle.zone.specs.Zone.{Zone, In, Side, on-start, on-nstart, on-end, on-nend, on-length, on-nlength, limit, upper, lower, opposite, Keeps, Loses}
use Rattle.limit.proofs.Linear.{up, dn, un, un_le, lin_le, sum_ud, sum_un, nought_up, nought_dn, nought_un}
use Rattle.limit.proofs.Common.{within_widen, within-≤}
use Rattle.limit.proofs.Breaking.{broken_lin, broken_is}
use Rattle.zone.proofs.Closed.{Closed}
use Rattle.zone.proofs.Tighten.{⊑-in}
use Rattle.zone.proofs.Narrow.{member, narrowed}

room : {l m : Limit} → ¬ (l ≤ᴸ m) → nought ≤ᴸ l ⊕ broken m
room {l} {m} n =
    let g : ¬ (2 * up l + 2 * dn m + un m ≤ 2 * up m + 2 * dn l + un l) = λ k. n (lin_le k) in
    lin_le (omega (arith, nought_up, nought_dn, nought_un, sum_ud l (broken m), sum_un l (broken m), broken_lin m, un_le l, un_le m))

-- a member keeps to each limit, also seen from the other side
pub on : {z : Zone} {x y : Time} → In z x y → (k : Side) → Keeps k (limit z k) x y
on h on-start = h.start
on h on-nstart = h.nstart
on h on-end = h.end
on h on-nend = h.nend
on h on-length = h.length
on h on-nlength = h.nlength

pub off : {z : Zone} {x y : Time} → In z x y → (k : Side) → Within (limit z (opposite k)) (lower origin k x y) (upper origin k x y)
off h on-start = h.nstart
off h on-nstart = h.start
off h on-end = h.nend
off h on-nend = h.end
off h on-length = h.nlength
off h on-nlength = h.length

pub sharp : {z : Zone} → Closed z → (k : Side) (m : Limit) → ¬ (limit z k ≤ᴸ m) → Loses z k m
sharp {z} h k m n =
    let r = narrowed h (broken m) k (room n) in
    let p = member r.closed in
    let q = ⊑-in r.inside p.2 in
    record {
      from = p.0;
      to = p.1;
      stretch = (within-≤ p.0 p.1).0 (within_widen p.0 p.1 h.onward q.nlength);
      member = q;
      lost = (broken_is m (upper origin k p.0 p.1) (lower origin k p.0 p.1)).0 (within_widen (lower origin k p.0 p.1) (upper origin k p.0 p.1) r.low (off p.2 k));
    }

dec≤ : (l m : Limit) → Dec (l ≤ᴸ m)
dec≤ l m = go (at_most l m) (λ t. record { le = t }) (λ h. h.le)
  where
    go : (b : Bool) → (T b → l ≤ᴸ m) → (l ≤ᴸ m → T b) → Dec (l ≤ᴸ m)
    go true f g = yes (f tt)
    go false f g = no g

pub by_contra : {l m : Limit} → ¬ (¬ (l ≤ᴸ m)) → l ≤ᴸ m
by_contra {l} {m} n = go (dec≤ l m)
  where
    go : Dec (l ≤ᴸ m) → l ≤ᴸ m
    go (yes h) = h
    go (no h) = absurd (n h)
