-- A turn of the loop over left zones: the zone at hand with all right ones.
use Rattle.std.specs.Prelude.{Option}
use mathlib.Core.Path.{◌≡◌, sym, ap, subst, ◌∙◌}
use mathlib.Core.List.{List, [], ◌∷◌, ◌++◌, map}
use Prim.Native.Nat.{ℕ, ◌+◌, ◌-◌, ◌*◌, ◌≤◌, ◌<◌}
use native.Mathlib.Omega.{arith}
use lib.IntN.{ℤ}
use lib.ListN.{length, length-append, length-map}
use Rattle.zone.specs.declared.Zone.{Zone}
use Rattle.words.specs.Words.{zone_at}
use Rattle.list.specs.Insert.{Built, overflow, insert_each}
use Rattle.list.specs.Slots.{list_at, Kept}
use Rattle.list.proofs.Slots.{list_at_length, list_at_next, list_at_kept}
use Rattle.list.proofs.Scan.{nothing_left}
use Rattle.growing.specs.declared.Growing.{Growing}
use Rattle.growing.specs.Growth.{Growth}
use Rattle.pairs.specs.Counted.{Counted}
use Rattle.pairs.specs.declared.Operation.{Operation}
use Rattle.pairs.specs.Pairs.{pairs, beside, crossed, Composed}
use Rattle.pairs.specs.Operands.{Operands}
use Rattle.pairs.specs.Row.{applied, Zones, Pairing}
use Rattle.pairs.proofs.Pairs.{crossed_applied}
use Rattle.pairs.proofs.Zones.{supply_zones, still_zones, one_there, read_there}
use Rattle.pairs.proofs.Combining.{Combining, combining_same, combining_most, combining_on, combining_overflow, combining_end}

-- two lists of 128 have at most 16,384 pairs
crossed_most : (A B : List Zone) → length B ≤ 128 → length (crossed A B) ≤ 128 * length A
unfolding crossed
crossed_most [] B h = omega arith
crossed_most (z ∷ A) B h = omega (arith, crossed_most A B h, length-append (beside z B) (crossed A B), length-map {B = Zone × Zone} B (λ (w : Zone). (z, w)))

module _ {ws₀ : List ℤ} {left n right m target count : ℕ} (o : Operands ws₀ left n right m target count) where
  abbrev pub from_row : ℕ → List (Zone × Zone)
  from_row i = crossed (list_at ws₀ (left + i * 6) (n - i)) (list_at ws₀ right m)

  abbrev pub all_rows : List (Zone × Zone)
  all_rows = crossed (list_at ws₀ left n) (list_at ws₀ right m)

  pub first_row : all_rows ≡ from_row 0
  first_row =
      let e : left + 0 * 6 ≡ left = omega arith in
      let f : n - 0 ≡ n = omega arith in
      rw (e, f)

  rights : Zones ws₀ right m target
  rights = supply_zones o.rights

  lefts : Zones ws₀ left n target
  lefts = supply_zones o.lefts

  -- what is put for all of them
  put_as : (op : Operation) (g₀ : Growing) → insert_each (map (applied op) all_rows) (list_at ws₀ target g₀.count) ≡ insert_each (pairs op (list_at ws₀ left n) (list_at ws₀ right m)) (list_at ws₀ target g₀.count)
  put_as op g₀ = ap (λ (rs : List (Option Zone)). insert_each rs (list_at ws₀ target g₀.count)) (crossed_applied op (list_at ws₀ left n) (list_at ws₀ right m))

  pub rows_end : {op : Operation} {g₀ g : Growing} {ws : List ℤ} (i : ℕ) → n ≤ i → Combining op (from_row i) all_rows g₀ target ws₀ ws g
      → Growth (insert_each (pairs op (list_at ws₀ left n) (list_at ws₀ right m)) (list_at ws₀ target g₀.count)) (Counted (Composed op) all_rows) g₀ (list_at ws₀ target g₀.count) ws target g
  unfolding crossed
  rows_end {op} {g₀} {g} {ws} i h c =
      subst (λ (b : Built). Growth b (Counted (Composed op) all_rows) g₀ (list_at ws₀ target g₀.count) ws target g) (put_as op g₀)
      (combining_end (ap (λ (A : List Zone). crossed A (list_at ws₀ right m)) (nothing_left ws₀ (left + i * 6) n i h)) c)

  module _ {ws : List ℤ} (k : Kept target 768 ws₀ ws) (i : ℕ) (l : i < n) where
    abbrev at_hand : List (Zone × Zone)
    at_hand = beside (zone_at ws (left + i * 6)) (list_at ws right m)

    next_row : from_row i ≡ at_hand ++ from_row (i + 1)
    unfolding crossed
    next_row =
        ap (λ (A : List Zone). crossed A (list_at ws₀ right m)) (list_at_next ws₀ left n i l)
        ∙ (λ j. beside (sym (read_there lefts i l k) j) (sym (list_at_kept right m k rights.apart) j) ++ from_row (i + 1))

    module _ {op : Operation} {g₀ g : Growing} (c : Combining op (from_row i) all_rows g₀ target ws₀ ws g) where
      ahead : Combining op (at_hand ++ from_row (i + 1)) all_rows g₀ target ws₀ ws g
      ahead = combining_same next_row c

      pub row_pairing : g₀.pairs ≡ 0 → Pairing ws (left + i * 6) right m target g
      row_pairing e =
          record {
            one = still_zones (one_there lefts i l) k;
            others = still_zones rights k;
            stands = c.going.stands;
            countable = omega (arith, e, combining_most c, o.lefts.list.few, o.rights.list.few, crossed_most (list_at ws₀ left n) (list_at ws₀ right m) (omega (arith, o.rights.list.few, list_at_length ws₀ right m)), list_at_length ws₀ left n);
          }

      pub row_on : {vs : List ℤ} {h : Growing} → Growth (insert_each (map (applied op) at_hand) (list_at ws target g.count)) (Counted (Composed op) at_hand) g (list_at ws target g.count) vs target h → Kept target 768 ws vs → Combining op (from_row (i + 1)) all_rows g₀ target ws₀ vs h
      row_on w f = combining_on at_hand (from_row (i + 1)) ahead w f

      pub row_overflow : {P : Type 0} → (insert_each (map (applied op) at_hand) (list_at ws target g.count) ≡ overflow) × P → (insert_each (pairs op (list_at ws₀ left n) (list_at ws₀ right m)) (list_at ws₀ target g₀.count) ≡ overflow) × P
      row_overflow w = let e = combining_overflow at_hand (from_row (i + 1)) ahead w in (sym (put_as op g₀) ∙ e.0, e.1)
