-- The theorems on lists of zones: the page that the crates above cite. x, y and t are times num / den of any denominators; zones are tight
-- and inside ticks from..to where a theorem says `Proper` or `AllProper`.
use Rattle.std.specs.Prelude.{Option, Some}
use mathlib.Core.Path.{◌≡◌, refl, sym, subst}
use mathlib.Core.Logic.Iff
use mathlib.Core.Logic.{◌↔◌, ◌⊎◌, inr, ⊎_map, ⊎_elim}
use mathlib.Core.List.Memᴰ.{eq_of_singleton}
use mathlib.Core.List.Memᴰ.{head}
use mathlib.Core.List.Memᴰ.{not-nil}
use mathlib.Core.List.{List, [], ◌∷◌, ◌++◌, map, Memᴰ}
use Prim.Native.Nat.{ℕ, ◌≤◌}
use native.Mathlib.Omega.{arith}
use lib.Dec.{T}
use lib.ListN.{length, length-append}
use Rattle.limit.specs.Time.{Time}
use Rattle.zone.specs.declared.Zone.{Zone}
use Rattle.zone.specs.Zone.{contains, In, Proper}
use Rattle.list.specs.Insert.{capacity, covered, outside, away, placed, insert, listed, insert_each}
use Rattle.list.specs.Members.{Lies, AllProper, Covered}
use Rattle.list.proofs.Antichain.{Antichain}
use Rattle.list.proofs.Coverage as coverage
use Rattle.list.proofs.Coverage.{Puts, Offered, puts, insert_cases, covered_lies, covered_within, clash}
use Rattle.list.proofs.Members.{nothing_lies, mem_zones, offered_zones, offered_one}

-- ==== 1. Put

-- the test of a put tells whether z lies inside a listed zone
pub covered_is : (z : Zone) (L : List Zone) → T (covered z L) ↔ Covered z L
covered_is = coverage.covered_is

-- a put is turned away only where the list covers the zone already; nothing changes
pub away_covered : (z : Zone) (L : List Zone) → insert z L ≡ away → Covered z L
away_covered = coverage.away_covered

-- so its stretches lie in the list already
pub away_lies : (z : Zone) (L : List Zone) → insert z L ≡ away → (x y : Time) → In z x y → Lies L x y
away_lies z L e x y i = covered_lies (away_covered z L e) i

-- a list of one
pub one_proper : {from to : ℕ} {z : Zone} → Proper from to z → (v : Zone) → Memᴰ (Some v) (Some z ∷ []) → Proper from to v
one_proper {from} {to} {z} h v m = subst (Proper from to) (sym (eq_of_singleton (mem_zones (z ∷ []) m))) h

-- M is what `insert_each` makes of L by putting rs
module _ (rs : List (Option Zone)) (L : List Zone) {M : List Zone} (e : insert_each rs L ≡ listed M) where
  went : Puts rs L M
  went = puts rs L e

  -- M covers exactly what L and the zones put cover
  pub each_covers : (x : Zone) → Covered x M ↔ (Covered x L ⊎ ((z : Zone) × Memᴰ (Some z) rs × T (contains z x)))
  each_covers x = (
    λ c. ⊎_map (λ m. (c.0, m, c.2)) (λ m. (c.0, m, c.2)) (coverage.puts_mem went c.1),
    ⊎_elim (coverage.puts_keep went x) (λ p. covered_within x p.0 p.2 (coverage.puts_new went p.0 p.1)),
  )

  -- in M lie exactly the stretches of L and of the zones put
  pub each_lies : (x y : Time) → Lies M x y ↔ (Lies L x y ⊎ Offered rs x y)
  each_lies = coverage.puts_lies went

  -- tight zones inside from..to stay so ..
  pub each_proper : {from to : ℕ} → AllProper from to L → ((z : Zone) → Memᴰ (Some z) rs → Proper from to z) → AllProper from to M
  each_proper = coverage.puts_proper went

  -- .. none lies inside another ..
  pub each_antichain : Antichain L → Antichain M
  each_antichain = coverage.puts_antichain went

  -- .. and there are no more than 128
  pub each_length : length L ≤ capacity → length M ≤ capacity
  each_length = coverage.puts_length went

-- M is what one put leaves that was not turned away
module _ (z : Zone) (L : List Zone) {M : List Zone} (e : insert z L ≡ placed M) where
  alone : insert_each (Some z ∷ []) L ≡ listed M
  alone = coverage.placed_each z L e

  -- the zone was not covered
  pub placed_new : ¬ Covered z L
  placed_new = coverage.placed_new z L e

  -- M covers exactly what L and z cover
  pub placed_covers : (x : Zone) → Covered x M ↔ (Covered x L ⊎ T (contains z x))
  placed_covers x = Iff.trans (each_covers (Some z ∷ []) L alone x) (
    ⊎_map (λ c. c) (λ p. subst (λ (v : Zone). T (contains v x)) (eq_of_singleton (mem_zones (z ∷ []) p.1)) p.2),
    ⊎_map (λ c. c) (λ i. (z, head refl, i)),
  )

  -- in M lie exactly the stretches of L and of z
  pub placed_lies : (x y : Time) → Lies M x y ↔ (Lies L x y ⊎ In z x y)
  placed_lies x y = Iff.trans (each_lies (Some z ∷ []) L alone x y) (⊎_map (λ l. l) (offered_one z x y).0, ⊎_map (λ l. l) (offered_one z x y).1)

  -- tight zones inside from..to stay so ..
  pub placed_proper : {from to : ℕ} → AllProper from to L → Proper from to z → AllProper from to M
  placed_proper h k = each_proper (Some z ∷ []) L alone h (one_proper k)

  -- .. none lies inside another ..
  pub placed_antichain : Antichain L → Antichain M
  placed_antichain = each_antichain (Some z ∷ []) L alone

  -- .. and there are no more than 128, whatever the length of L
  pub placed_length : length M ≤ capacity
  placed_length =
      insert_cases z L (λ p. p ≡ placed M → length M ≤ capacity) (λ _ q. clash (cc))
      (λ _ h q. let m : outside z L ++ (z ∷ []) ≡ M = cc in subst (λ (K : List Zone). length K ≤ capacity) m (omega (arith, length-append (outside z L) (z ∷ [])))) (λ _ _ q. clash (cc)) e

-- ==== 2. The list of each operator: what lies in it, and that it is well formed where the lists of its operands are

-- tight zones inside from..to, none inside another, at most 128
pub record WellFormed (from to : ℕ) (L : List Zone) : Type 0 where
  pub proper : AllProper from to L
  pub antichain : Antichain L
  pub short : length L ≤ capacity

-- L is built by putting rs into an empty list: the stretches of the zones put, and no others
module _ (rs : List (Option Zone)) {L : List Zone} (e : insert_each rs [] ≡ listed L) where
  pub built_lies : (x y : Time) → Lies L x y ↔ Offered rs x y
  built_lies x y = Iff.trans (each_lies rs [] e x y) (⊎_elim (λ l. absurd (nothing_lies l)) (λ o. o), inr)

  pub built_well : {from to : ℕ} → ((z : Zone) → Memᴰ (Some z) rs → Proper from to z) → WellFormed from to L
  built_well h = record { proper = each_proper rs [] e (λ z m. absurd (not-nil m)) h; antichain = each_antichain rs [] e tt; short = each_length rs [] e (omega arith) }

-- L is built by putting the zones of K into an empty list: their stretches, and no others
module _ (K : List Zone) {L : List Zone} (e : insert_each (map Some K) [] ≡ listed L) where
  pub zones_lies : (x y : Time) → Lies L x y ↔ Lies K x y
  zones_lies x y = Iff.trans (built_lies (map Some K) e x y) (offered_zones K x y)

  pub zones_well : {from to : ℕ} → AllProper from to K → WellFormed from to L
  zones_well h = built_well (map Some K) e (λ z m. h z (mem_zones K m))
