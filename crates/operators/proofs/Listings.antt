-- What the loops have put together, as the answers of the operators.
use Rattle.std.specs.Prelude.{Option, Some}
use mathlib.Core.Path.{◌≡◌, sym, ap, subst, ◌∙◌}
use mathlib.Core.List.{List, [], ◌∷◌, map}
use Prim.Native.Nat.{ℕ, ◌+◌, ◌-◌, ◌*◌, ◌≤◌, ◌<◌}
use native.Mathlib.Omega.{arith}
use lib.IntN.{ℤ}
use lib.ListN.{length}
use Rattle.zone.specs.declared.Zone.{Zone}
use Rattle.zone.specs.Zone.{Proper}
use Rattle.words.specs.Words.{zone_at, codes, overwrite}
use Rattle.words.proofs.Words.{written_zone}
use Rattle.list.specs.Insert.{Built, overflow, insert_each, then}
use Rattle.operators.specs.Operators.{union}
use Rattle.list.specs.Slots.{list_at, Kept, Sound}
use Rattle.operators.specs.Listing.{Listing}
use Rattle.growing.specs.declared.Growing.{Growing}
use Rattle.growing.specs.Growth.{Begins, Stands, Growth}
use Rattle.list.proofs.Slots.{list_at_next, kept_within, kept_written}
use Rattle.growing.proofs.Going.{begun_stands}
use Rattle.pairs.specs.Operands.{Operands}
use Rattle.growing.proofs.Loops.{insert_each_append}

-- ---- an empty list that grew

module _ (rs : List (Option Zone)) (ws : List ℤ) (target : ℕ) {g : Growing} (b : Begins 0 g) where
  empty_list : insert_each rs (list_at ws target g.count) ≡ insert_each rs []
  unfolding list_at
  empty_list = ap (λ (n : ℕ). insert_each rs (list_at ws target n)) b.count

  pub begun_listing : {Counts : ℕ → Type 0} {h : Growing} {vs : List ℤ} → Growth (insert_each rs (list_at ws target g.count)) Counts g (list_at ws target g.count) vs target h → Listing (insert_each rs []) vs target h.count
  begun_listing w = record { list = w.list; value = sym empty_list ∙ w.value; holds = w.holds }

  pub begun_overflow : {P : Type 0} → (insert_each rs (list_at ws target g.count) ≡ overflow) × P → (insert_each rs [] ≡ overflow) × P
  begun_overflow o = (sym empty_list ∙ o.0, o.1)

-- .. and is ready for the pairs of two lists
pub begun_operands : {ws : List ℤ} {left n right m target : ℕ} {g : Growing} → Operands ws left n right m target 0 → Begins 0 g → Operands ws left n right m target g.count × Stands ws target g × (g.pairs ≡ 0)
begun_operands {ws} {left} {n} {right} {m} {target} o b = (subst (Operands ws left n right m target) (sym b.count) o, begun_stands b o.lefts.slot, b.pairs)

-- ---- the zones of a slot, one after the other

pub zones_next : (ws : List ℤ) (base n i : ℕ) → i < n → map Some (list_at ws (base + i * 6) (n - i)) ≡ Some (zone_at ws (base + i * 6)) ∷ map Some (list_at ws (base + (i + 1) * 6) (n - (i + 1)))
zones_next ws base n i l = ap (map Some) (list_at_next ws base n i l)

-- ---- `|`: the left zones, then the right ones

module _ (A B : List Zone) where
  in_turn : union A B ≡ then (insert_each (map Some A) []) (insert_each (map Some B))
  unfolding union
  in_turn = insert_each_append (map Some A) (map Some B) []

  pub union_left_overflow : {P : Type 0} → (insert_each (map Some A) [] ≡ overflow) × P → (union A B ≡ overflow) × P
  union_left_overflow o = (in_turn ∙ ap (λ (r : Built). then r (insert_each (map Some B))) o.0, o.1)

  -- after the left zones: B' is the right list, read from the words as they are then
  module _ {us : List ℤ} {target k : ℕ} (g : Listing (insert_each (map Some A) []) us target k) {B' : List Zone} (e : B' ≡ B) where
    then_right : union A B ≡ insert_each (map Some B') (list_at us target k)
    then_right = in_turn ∙ ap (λ (r : Built). then r (insert_each (map Some B))) g.value ∙ ap (insert_each (map Some B)) (sym g.holds.zones) ∙ ap (λ (C : List Zone). insert_each (map Some C) (list_at us target k)) (sym e)

    pub union_right_overflow : {P : Type 0} → (insert_each (map Some B') (list_at us target k) ≡ overflow) × P → (union A B ≡ overflow) × P
    union_right_overflow o = (then_right ∙ o.0, o.1)

    pub union_listing : {Counts : ℕ → Type 0} {g h : Growing} {L : List Zone} {vs : List ℤ} → Growth (insert_each (map Some B') (list_at us target k)) Counts g L vs target h → Listing (union A B) vs target h.count
    union_listing w = record { list = w.list; value = then_right ∙ w.value; holds = w.holds }

-- ---- one zone, written into a slot of its own

module _ (z : Zone) (ws : List ℤ) (scratch : ℕ) (fits : scratch + 768 ≤ length ws) {us : List ℤ} (e : us ≡ overwrite ws scratch (codes z)) where
  pub written_kept : Kept scratch 768 ws us
  written_kept = subst (λ (xs : List ℤ). Kept scratch 768 ws xs) (sym e) (kept_within (omega arith) (omega arith) (kept_written ws scratch z (omega arith)))

  pub written_alone : list_at us scratch 1 ≡ z ∷ []
  unfolding list_at
  written_alone = ap (λ (xs : List ℤ). zone_at xs scratch ∷ []) e ∙ ap (λ (y : Zone). y ∷ []) (written_zone ws scratch z (omega arith))

pub sound_one : {z : Zone} → Proper 0 1_000_000 z → Sound (z ∷ [])
sound_one {z} p y m = subst (Proper 0 1_000_000) (sym (mathlib.Core.List.Memᴰ.eq_of_singleton m)) p
