-- Blocks of right zones: what the hull of one says of its zones, and a turn of the loop over blocks.
use Rattle.std.specs.Prelude.{None}
use mathlib.Core.Path.{◌≡◌, refl, sym, ap, subst, ◌∙◌}
use mathlib.Core.Bool.{Bool, true, false}
use mathlib.Core.Logic.{◌↔◌}
use mathlib.Core.List.Memᴰ
use mathlib.Core.List.{List, ◌++◌, map, map-append, Memᴰ}
use Prim.Native.Nat.{ℕ, ◌+◌, ◌-◌, ◌*◌, ◌≤◌, ◌<◌, min}
use native.Mathlib.Omega.{arith}
use lib.Dec.{T}
use lib.IntN.{ℤ}
use lib.ListN.{length, length-map}
use Rattle.limit.specs.declared.Limit.{Limit}
use Rattle.limit.specs.Limit.{most_sum, decode, Small}
use Rattle.zone.specs.declared.Zone.{Zone}
use Rattle.zone.specs.Zone.{Proper}
use Rattle.zone.proofs.Laws.{ranged}
use Rattle.words.specs.Words.{word, zone_at}
use Rattle.touching.specs.Sharing.{Share}
use Rattle.touching.proofs.Sharing.{share_more, Abut, compose_apart, meet_apart, touches_share}
use Rattle.list.specs.Insert.{overflow, insert_each}
use Rattle.list.specs.Slots.{list_at, Kept}
use Rattle.list.proofs.Slots.{list_at_length, list_at_kept}
use Rattle.hulls.specs.Hulls.{Under, block, Hulls}
use Rattle.growing.specs.declared.Growing.{Growing}
use Rattle.growing.specs.Growth.{Growth}
use Rattle.pairs.specs.Counted.{Counted}
use Rattle.pairs.specs.declared.Operation.{Operation}
use Rattle.pairs.specs.declared.Operation.TheVariants.{Meet, Compose}
use Rattle.pairs.specs.Pairs.{apply, beside, Composed}
use Rattle.pairs.specs.Row.{applied, Pairing}
use Rattle.pairs.specs.Combined.{side}
use Rattle.products.specs.Steps.{ReachesAs}
use Rattle.pairs.proofs.Zones.{still_zones, read_one}
use Rattle.products.proofs.Hulls.{block_split, zones_block}
use Rattle.pairs.proofs.Combining.{Combining, combining_same, combining_most, combining_on, combining_overflow, combining_past}

-- ---- what a hull says

-- the limits of z that an operation goes by
abbrev upper : Operation → Zone → Limit
upper Meet z = z.start
upper Compose z = z.end

abbrev nupper : Operation → Zone → Limit
nupper Meet z = z.nstart
nupper Compose z = z.nend

missed : (op : Operation) {z : Zone} → Proper 0 1_000_000 z → (s ns : ℤ) → ¬ Share (upper op z) (nupper op z) (decode s) (decode ns)
    → (w : Zone) → Proper 0 1_000_000 w → Under s ns w → (apply op z w ≡ None) × (¬ Composed op (z, w))
missed Meet {z} p s ns n w q u = (meet_apart z w (λ h. n (share_more u.start u.nstart h)), λ f. f)
missed Compose {z} p s ns n w q u =
    let apart : ¬ Abut z w = λ h. n (share_more u.start u.nstart h) in
    (compose_apart z w apart, λ t. apart ((touches_share z w p.tight q.tight).0 t))

pub reaches_by : (op : Operation) {z : Zone} → Proper 0 1_000_000 z → (m : ℕ) → 16 < m → (s ns : ℤ) (r : Bool) → T r ↔ Share (upper op z) (nupper op z) (decode s) (decode ns) → ReachesAs op z m s ns r
reaches_by op p m h s ns true f = tt
reaches_by op p m h s ns false f = (h, missed op p s ns (λ k. f.1 k))

side_within : (op : Operation) → side op ≤ 2
side_within Meet = omega arith
side_within Compose = omega arith

-- they stand from one word of z on
module _ (op : Operation) (ws : List ℤ) (left : ℕ) where
  sides : (op : Operation) → (decode (word ws (left + side op)) ≡ upper op (zone_at ws left)) × (decode (word ws (left + side op + 1)) ≡ nupper op (zone_at ws left))
  unfolding zone_at
  sides Meet = let e : left + 0 ≡ left = omega arith in rw e (refl, refl)
  sides Compose = let e : left + 2 + 1 ≡ left + 3 = omega arith in (refl, ap (λ (i : ℕ). decode (word ws i)) e)

  small : (op : Operation) → Proper 0 1_000_000 (zone_at ws left) → Small 1_000_000 (upper op (zone_at ws left)) × Small 1_000_000 (nupper op (zone_at ws left))
  small Meet p = let r = ranged p in (r.start, r.nstart)
  small Compose p = let r = ranged p in (r.end, r.nend)

  pub side_ready : left + 6 ≤ length ws → Proper 0 1_000_000 (zone_at ws left) → (left + side op + 2 ≤ length ws) × Small most_sum (decode (word ws (left + side op))) × Small most_sum (decode (word ws (left + side op + 1)))
  side_ready h p =
      let m = small op p in
      let e = sides op in
      (omega (arith, h, side_within op), rw (e.0) (omega (arith, m.0)), rw (e.1) (omega (arith, m.1)))

  pub side_shares : (s ns : ℤ) (r : Bool) → T r ↔ Share (decode (word ws (left + side op))) (decode (word ws (left + side op + 1))) (decode s) (decode ns) → T r ↔ Share (upper op (zone_at ws left)) (nupper op (zone_at ws left)) (decode s) (decode ns)
  side_shares s ns r f = let e = sides op in rw (e.0, e.1) at f

-- ---- a turn of the loop over blocks

module _ {ws₀ : List ℤ} {left right m target : ℕ} {g₀ : Growing} (p : Pairing ws₀ left right m target g₀) where
  -- the pairs from block b on
  abbrev pub from_block : ℕ → List (Zone × Zone)
  from_block b = beside (zone_at ws₀ left) (list_at ws₀ (right + b * 16 * 6) (m - b * 16))

  abbrev pub all_blocks : List (Zone × Zone)
  all_blocks = beside (zone_at ws₀ left) (list_at ws₀ right m)

  pub first_block : all_blocks ≡ from_block 0
  first_block =
      let e : right + 0 * 16 * 6 ≡ right = omega arith in
      let f : m - 0 * 16 ≡ m = omega arith in
      rw (e, f)

  module _ {ws : List ℤ} (k : Kept target 768 ws₀ ws) (b : ℕ) (l : b * 16 < m) where
    abbrev at_hand : List (Zone × Zone)
    at_hand = beside (zone_at ws left) (block ws right m b)

    same_block : block ws right m b ≡ block ws₀ right m b
    same_block = list_at_kept (right + b * 16 * 6) (min (m - b * 16) 16) k (zones_block p.others b l).apart

    next_block : from_block b ≡ at_hand ++ from_block (b + 1)
    next_block =
        ap (beside (zone_at ws₀ left)) (block_split ws₀ right m b)
        ∙ map-append (λ (y : Zone). (zone_at ws₀ left, y)) (block ws₀ right m b) (list_at ws₀ (right + (b + 1) * 16 * 6) (m - (b + 1) * 16))
        ∙ (λ i. beside (sym (read_one p.one k) i) (sym same_block i) ++ from_block (b + 1))

    module _ {op : Operation} {g : Growing} (c : Combining op (from_block b) all_blocks g₀ target ws₀ ws g) where
      ahead : Combining op (at_hand ++ from_block (b + 1)) all_blocks g₀ target ws₀ ws g
      ahead = combining_same next_block c

      pub block_pairing : Pairing ws left (right + b * 16 * 6) (min (m - b * 16) 16) target g
      block_pairing =
          record {
            one = still_zones p.one k;
            others = still_zones (zones_block p.others b l) k;
            stands = c.going.stands;
            countable = omega (arith, p.countable, combining_most c, length-map {B = Zone × Zone} (list_at ws₀ (right + b * 16 * 6) (m - b * 16)) (λ (y : Zone). (zone_at ws₀ left, y)), list_at_length ws₀ (right + b * 16 * 6) (m - b * 16), length-map {B = Zone × Zone} (list_at ws₀ right m) (λ (y : Zone). (zone_at ws₀ left, y)), list_at_length ws₀ right m);
          }

      pub block_on : {vs : List ℤ} {h : Growing} → Growth (insert_each (map (applied op) at_hand) (list_at ws target g.count)) (Counted (Composed op) at_hand) g (list_at ws target g.count) vs target h → Kept target 768 ws vs → Combining op (from_block (b + 1)) all_blocks g₀ target ws₀ vs h
      block_on w f = combining_on at_hand (from_block (b + 1)) ahead w f

      pub block_overflow : {P : Type 0} → (insert_each (map (applied op) at_hand) (list_at ws target g.count) ≡ overflow) × P → (insert_each (map (applied op) all_blocks) (list_at ws₀ target g₀.count) ≡ overflow) × P
      block_overflow o = combining_overflow at_hand (from_block (b + 1)) ahead o

      -- the left zone reaches none of it
      pub block_past : {hs : List ℤ} → Hulls hs ws₀ right m → ReachesAs op (zone_at ws left) m (word hs (b * 2)) (word hs (b * 2 + 1)) false → Combining op (from_block (b + 1)) all_blocks g₀ target ws₀ ws g
      block_past h r =
          combining_past at_hand (from_block (b + 1)) ahead
          (λ q i. let y = Memᴰ.of_map (λ (y : Zone). (zone_at ws left, y)) (block ws right m b) i in
          let there = subst (Memᴰ y.0) same_block y.1 in
          subst (λ (x : Zone × Zone). (applied op x ≡ None) × (¬ Composed op x)) y.2
          (r.1 y.0 ((zones_block p.others b l).sound y.0 there) (h.cover r.0 b l y.0 there)))
