-- A turn of the loops over right zones: the pair at hand, and what comes of it.
use Rattle.std.specs.Prelude.{Option, Some, None}
use mathlib.Core.Path.{◌≡◌, refl, sym, ap, subst, ◌∙◌}
use mathlib.Core.Bool.{Bool, true, false}
use mathlib.Core.Logic.{◌↔◌}
use mathlib.Core.List.Memᴰ.{eq_of_singleton}
use mathlib.Core.List.{List, [], ◌∷◌, ◌++◌, map}
use Prim.Native.Nat.{ℕ, ◌+◌, ◌-◌, ◌*◌, ◌≤◌, ◌<◌}
use native.Mathlib.Omega.{arith}
use lib.Dec.{T}
use lib.IntN.{ℤ}
use lib.ListN.{length, length-map}
use Rattle.zone.specs.declared.Zone.{Zone}
use Rattle.zone.specs.Zone.{Proper, Ranged, Touches, compose}
use Rattle.zone.proofs.Laws.{ranged, proper_meet, proper_compose, compose_empty}
use Rattle.words.specs.Words.{zone_at}
use Rattle.list.specs.Insert.{overflow, insert_each}
use Rattle.list.specs.Slots.{list_at, Kept}
use Rattle.list.proofs.Slots.{list_at_length, list_at_next}
use Rattle.growing.specs.declared.Growing.{Growing}
use Rattle.growing.specs.Growth.{Stands, NoPair, Growth}
use Rattle.pairs.specs.Pairs.{Operation, Meet, Compose, apply, beside, Composed}
use Rattle.pairs.specs.Row.{most_pairs, applied, Pairing}
use Rattle.pairs.specs.Combined.{counting, CombinedAs}
use Rattle.pairs.proofs.Zones.{still_zones, proper_there, proper_one, read_there, read_one}
use Rattle.pairs.proofs.Combining.{Combining, combining_same, combining_most, combining_on, combining_overflow, combining_past, met, composed_one}

-- two zones have a composition exactly if an end of the one is a start of the other
pub apart_empty : {z w : Zone} → Proper 0 1_000_000 z → Proper 0 1_000_000 w → ¬ Touches z w → compose z w ≡ None
apart_empty p q n = (compose_empty p.tight q.tight).1 (λ x t y a b. n (x, t, y, a, b))

empty_apart : {z w : Zone} → Proper 0 1_000_000 z → Proper 0 1_000_000 w → compose z w ≡ None → ¬ Touches z w
empty_apart p q e t = (compose_empty p.tight q.tight).0 e t.0 t.1 t.2 t.3 t.4

module _ {ws₀ : List ℤ} {left right m target : ℕ} {g₀ : Growing} (p : Pairing ws₀ left right m target g₀) where
  -- the pairs from the j-th right zone on
  abbrev pub from : ℕ → List (Zone × Zone)
  from j = beside (zone_at ws₀ left) (list_at ws₀ (right + j * 6) (m - j))

  abbrev pub all : List (Zone × Zone)
  all = beside (zone_at ws₀ left) (list_at ws₀ right m)

  pub from_first : all ≡ from 0
  from_first =
      let e : right + 0 * 6 ≡ right = omega arith in
      let f : m - 0 ≡ m = omega arith in
      rw (e, f)

  module _ {ws : List ℤ} (k : Kept target 768 ws₀ ws) (j : ℕ) (l : j < m) where
    abbrev z : Zone
    z = zone_at ws left

    abbrev w : Zone
    w = zone_at ws (right + j * 6)

    -- the two zones as they are read now
    pub pair_ready : (left + 6 ≤ length ws) × (right + j * 6 + 6 ≤ length ws) × Proper 0 1_000_000 z × Proper 0 1_000_000 w
    pair_ready =
        let one = still_zones p.one k in
        let others = still_zones p.others k in
        (omega (arith, one.room), omega (arith, others.room), proper_one one, proper_there others j l)

    -- the next pair is theirs
    next : from j ≡ ((z, w) ∷ []) ++ from (j + 1)
    next =
        ap (beside (zone_at ws₀ left)) (list_at_next ws₀ right m j l)
        ∙ (λ i. (sym (read_one p.one k) i, sym (read_there p.others j l k) i) ∷ from (j + 1))

    module _ {op : Operation} {g : Growing} (c : Combining op (from j) all g₀ target ws₀ ws g) where
      ahead : Combining op (((z, w) ∷ []) ++ from (j + 1)) all g₀ target ws₀ ws g
      ahead = combining_same next c

      pub pair_countable : g.pairs < most_pairs
      pair_countable = omega (arith, p.countable, combining_most c, length-map {B = Zone × Zone} (list_at ws₀ (right + j * 6) (m - j)) (λ (y : Zone). (zone_at ws₀ left, y)), list_at_length ws₀ (right + j * 6) (m - j), length-map {B = Zone × Zone} (list_at ws₀ right m) (λ (y : Zone). (zone_at ws₀ left, y)), list_at_length ws₀ right m)

      -- it gives nothing
      pub pair_past : apply op z w ≡ None → ¬ Composed op (z, w) → Combining op (from (j + 1)) all g₀ target ws₀ ws g
      pair_past e n = combining_past ((z, w) ∷ []) (from (j + 1)) ahead (λ q i. subst (λ (r : Zone × Zone). (applied op r ≡ None) × (¬ Composed op r)) (sym (eq_of_singleton i)) (e, n))

      -- its zone would be the 129th
      pub pair_overflow : {v : Zone} → apply op z w ≡ Some v → {P : Type 0} → (insert_each (Some v ∷ []) (list_at ws target g.count) ≡ overflow) × P → (insert_each (map (applied op) all) (list_at ws₀ target g₀.count) ≡ overflow) × P
      pair_overflow e o = combining_overflow ((z, w) ∷ []) (from (j + 1)) ahead (ap (λ (r : Option Zone). insert_each (r ∷ []) (list_at ws target g.count)) e ∙ o.0, o.1)

    -- what an operation makes of them has room in six words
    pub combined_ranged : (op : Operation) {v : Zone} → apply op z w ≡ Some v → Ranged 1_000_000 v
    combined_ranged Meet e = ranged (proper_meet w pair_ready.2 e)
    combined_ranged Compose e = ranged (proper_compose pair_ready.2 pair_ready.3 e)

    -- .. nothing, which is passed over
    pub combined_past : (op : Operation) {g : Growing} → Combining op (from j) all g₀ target ws₀ ws g → apply op z w ≡ None → Combining op (from (j + 1)) all g₀ target ws₀ ws g
    combined_past Meet c e = pair_past c e (λ n. n)
    combined_past Compose c e = pair_past c e (empty_apart pair_ready.2 pair_ready.3 e)

    -- .. or one, which is put
    pub combined_on : (op : Operation) {g : Growing} → Combining op (from j) all g₀ target ws₀ ws g → {v : Zone} → CombinedAs op z w (Some v) → {vs : List ℤ} {h : Growing}
        → Growth (insert_each (Some v ∷ []) (list_at ws target (counting op g).count)) NoPair (counting op g) (list_at ws target (counting op g).count) vs target h → Kept target 768 ws vs → Combining op (from (j + 1)) all g₀ target ws₀ vs h
    combined_on Meet c a b f = combining_on ((z, w) ∷ []) (from (j + 1)) (ahead c) (met a.0 b) f
    combined_on Compose c a b f = combining_on ((z, w) ∷ []) (from (j + 1)) (ahead c) (composed_one a.0 a.1 b) f

-- the list with one pair more stands as it stood
pub counting_stands : (op : Operation) {ws : List ℤ} {target : ℕ} {g : Growing} → Stands ws target g → Stands ws target (counting op g)
counting_stands Meet s = s
counting_stands Compose s = record { slot = s.slot; late = s.late }

pub counting_count : (op : Operation) (g : Growing) → (counting op g).count ≡ g.count
counting_count Meet g = refl
counting_count Compose g = refl

-- what the test says
pub touched : (r : Bool) {P : Type 0} → T r ↔ P → r ≡ true → P
touched r f e = f.0 (subst T (sym e) tt)

pub untouched : (r : Bool) {P : Type 0} → T r ↔ P → r ≡ false → ¬ P
untouched r f e p = subst T e (f.1 p)
