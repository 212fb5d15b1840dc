-- The zones to begin with: their members, and that they are tight.
use mathlib.Core.Logic.{◌↔◌}
use Prim.Native.Nat.{ℕ, ◌+◌, ◌*◌, ◌<◌, ◌≤◌, max}
use native.Mathlib.Omega.{arith}
use borrow.Author.Rules.{rules}
use lib.IntN.{pos, neg_ℤ}
use Rattle.signed.proofs.Integers.{neg, diff}
use Rattle.limit.specs.Time.{Time, origin, at_tick, ◌≤ᵀ◌, ◌<ᵀ◌, ◌≈ᵀ◌}
use Rattle.limit.specs.declared.Limit.{Limit}
use Rattle.limit.specs.declared.Limit.TheVariants.{AtMost, Below}
use Rattle.limit.specs.Limit.{Within, ◌≤ᴸ◌, ◌⊕◌, nought}
use Rattle.zone.specs.Zone.{Zone, In, InMaybe, Stretch, run, diagonal, everything, limited, band}
use Rattle.limit.proofs.Linear.{up, dn, un, lin_le, sum_ud, sum_un}
use Rattle.limit.proofs.Order.{≤_trans, lesser_l, lesser_r, lesser_of}
use Rattle.limit.proofs.Common.{within_widen, within_through, within-≤, within-<, within_to, within_from}
use Rattle.zone.proofs.Closed.{Closed, ClosedMaybe}
use Rattle.zone.proofs.Tighten.{tighten_is, tighten_tight}

-- a limit at most the sum of two, said by their numbers
abbrev LeSum : Limit → Limit → Limit → Type 0
LeSum l p q = 2 * up l + 2 * (dn p + dn q) + max (un p) (un q) ≤ 2 * (up p + up q) + 2 * dn l + un l

le_sum : (l p q : Limit) → LeSum l p q → l ≤ᴸ p ⊕ q
le_sum l p q g = lin_le (omega (arith, sum_ud p q, sum_un p q))

down : (p q l : Limit) → 2 * (up p + up q) + 2 * dn l + un l ≤ 2 * up l + 2 * (dn p + dn q) + max (un p) (un q) → p ⊕ q ≤ᴸ l
down p q l g = lin_le (omega (arith, sum_ud p q, sum_un p q))

-- what makes a zone closed, said by the numbers of its limits
record Numbers (z : Zone) : Type 0 where
  start : LeSum z.start z.nlength z.end
  nstart : LeSum z.nstart z.nend z.length
  end : LeSum z.end z.length z.start
  nend : LeSum z.nend z.nstart z.nlength
  length : LeSum z.length z.end z.nstart
  nlength : LeSum z.nlength z.start z.nend
  round_start : LeSum nought z.start z.nstart
  round_end : LeSum nought z.end z.nend
  round_length : LeSum nought z.length z.nlength
  after_0 : LeSum z.nstart nought nought
  onward : LeSum z.nlength nought nought

closed_by : (z : Zone) → Numbers z → Closed z
closed_by z n =
    record {
      start = le_sum z.start z.nlength z.end n.start;
      nstart = le_sum z.nstart z.nend z.length n.nstart;
      end = le_sum z.end z.length z.start n.end;
      nend = le_sum z.nend z.nstart z.nlength n.nend;
      length = le_sum z.length z.end z.nstart n.length;
      nlength = le_sum z.nlength z.start z.nend n.nlength;
      round_start = le_sum nought z.start z.nstart n.round_start;
      round_end = le_sum nought z.end z.nend n.round_end;
      round_length = le_sum nought z.length z.nlength n.round_length;
      after_0 = ≤_trans (le_sum z.nstart nought nought n.after_0) noughts;
      onward = ≤_trans (le_sum z.nlength nought nought n.onward) noughts;
    }
  where
    noughts : nought ⊕ nought ≤ᴸ nought
    noughts = down nought nought nought (unfold up dn un in omega arith)

module _ (from to : ℕ) where
  -- ---- a run

  pub run_members : (x y : Time) → In (run from to) x y ↔ ((at_tick from ≤ᵀ x) × (x <ᵀ y) × (y ≤ᵀ at_tick to))
  unfolding run
  run_members x y = (
    λ h. ((within_from from x).0 h.nstart, (within-< x y).0 h.nlength, (within_to to y).0 h.end),
    λ h. let a = (within_from from x).1 h.0 in
        let b = (within-< x y).1 h.1 in
        let c = (within_to to y).1 h.2 in
        record {
          start = within_widen x origin (down (Below (pos 0)) (AtMost (pos to)) (Below (pos to)) (unfold up dn un in omega arith)) (within_through (Below (pos 0)) (AtMost (pos to)) x y origin b c);
          nstart = a;
          end = c;
          nend = within_widen origin y (down (AtMost (neg_ℤ (pos from))) (Below (pos 0)) (Below (neg_ℤ (pos from))) (unfold up dn un in omega arith)) (within_through (AtMost (neg_ℤ (pos from))) (Below (pos 0)) origin x y a b);
          length = unfold ◌⊕◌ in within_through (AtMost (pos to)) (AtMost (neg_ℤ (pos from))) y origin x c a;
          nlength = b;
        },
  )

  pub run_closed : from < to → Closed (run from to)
  unfolding run up dn un
  run_closed h =
      let n = neg (pos from) in
      let w = diff (pos to) (pos from) in
      closed_by (run from to) (search rules)

  -- ---- all stretches

  pub everything_members : (x y : Time) → In (everything from to) x y ↔ Stretch from to x y
  unfolding everything
  everything_members x y = (
    λ h. ((within_from from x).0 h.nstart, (within-≤ x y).0 h.nlength, (within_to to y).0 h.end),
    λ h. let a = (within_from from x).1 h.0 in
        let b = (within-≤ x y).1 h.1 in
        let c = (within_to to y).1 h.2 in
        record {
          start = within_widen x origin (down nought (AtMost (pos to)) (AtMost (pos to)) (unfold up dn un in omega arith)) (within_through nought (AtMost (pos to)) x y origin b c);
          nstart = a;
          end = c;
          nend = within_widen origin y (down (AtMost (neg_ℤ (pos from))) nought (AtMost (neg_ℤ (pos from))) (unfold up dn un in omega arith)) (within_through (AtMost (neg_ℤ (pos from))) nought origin x y a b);
          length = unfold ◌⊕◌ in within_through (AtMost (pos to)) (AtMost (neg_ℤ (pos from))) y origin x c a;
          nlength = b;
        },
  )

  pub everything_closed : from ≤ to → Closed (everything from to)
  unfolding everything up dn un
  everything_closed h =
      let n = neg (pos from) in
      let w = diff (pos to) (pos from) in
      closed_by (everything from to) (search rules)

  -- ---- the diagonal

  pub diagonal_members : (x y : Time) → In (diagonal from to) x y ↔ ((at_tick from ≤ᵀ x) × (x ≈ᵀ y) × (y ≤ᵀ at_tick to))
  unfolding diagonal everything
  diagonal_members x y = (
    λ h. ((within_from from x).0 h.nstart, record { same = omega (arith, ((within-≤ x y).0 h.nlength).le, ((within-≤ y x).0 h.length).le) }, (within_to to y).0 h.end),
    λ h. let xy : x ≤ᵀ y = record { le = omega (arith, h.1.same) } in
        let yx : y ≤ᵀ x = record { le = omega (arith, h.1.same) } in
        let all = (everything_members x y).1 (h.0, xy, h.2) in
        record { start = all.start; nstart = all.nstart; end = all.end; nend = all.nend; length = (within-≤ y x).1 yx; nlength = all.nlength },
  )

  pub diagonal_closed : from ≤ to → Closed (diagonal from to)
  unfolding diagonal up dn un
  diagonal_closed h = let n = neg (pos from) in closed_by (diagonal from to) (search rules)

  -- ---- a band

  module _ (longest shortest : Limit) where
    limited_in : (z : Zone) (x y : Time) → In (limited z longest shortest) x y ↔ (In z x y × Within longest y x × Within shortest x y)
    unfolding limited
    limited_in z x y = (
      λ h. (
        record { start = h.start; nstart = h.nstart; end = h.end; nend = h.nend; length = within_widen y x (lesser_l _ _) h.length; nlength = within_widen x y (lesser_l _ _) h.nlength },
        within_widen y x (lesser_r z.length longest) h.length,
        within_widen x y (lesser_r z.nlength shortest) h.nlength,
      ),
      λ h. record {
        start = h.0.start;
        nstart = h.0.nstart;
        end = h.0.end;
        nend = h.0.nend;
        length = lesser_of (λ l. Within l y x) h.0.length h.1;
        nlength = lesser_of (λ l. Within l x y) h.0.nlength h.2;
      },
    )

    pub band_members : (x y : Time) → InMaybe (band from to longest shortest) x y ↔ (Stretch from to x y × Within longest y x × Within shortest x y)
    unfolding band
    band_members x y =
        let t = tighten_is x y (limited (everything from to) longest shortest) in
        let l = limited_in (everything from to) x y in
        let e = everything_members x y in (
          λ h. let k = l.0 (t.0 h) in (e.0 k.0, k.1, k.2),
          λ h. t.1 (l.1 (e.1 h.0, h.1, h.2)),
        )

    pub band_closed : ClosedMaybe (band from to longest shortest)
    unfolding band
    band_closed = tighten_tight (limited (everything from to) longest shortest) (unfold limited everything up dn un in lin_le (let n = neg (pos from) in omega arith)) (unfold limited everything in lesser_l nought shortest)
