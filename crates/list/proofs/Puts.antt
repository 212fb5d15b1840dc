-- The three ways of a put.
use mathlib.Core.Path.{◌≡◌, refl, sym, ap, subst, ◌∙◌}
use mathlib.Core.Bool.{true, false}
use mathlib.Core.List.{List, [], ◌∷◌, ◌++◌}
use Prim.Native.Nat.{ℕ, ◌+◌, ◌*◌, ◌≤◌, ◌<◌}
use native.Mathlib.Omega.{arith}
use lib.IntN.{ℤ}
use lib.ListN.{length}
use Rattle.std.specs.Prelude.{Ok, Err}
use borrow.Author.Tests.{lt-ltb, le-ltb}
use Rattle.zone.specs.declared.Zone.{Zone}
use Rattle.words.specs.Words.{zone_at, codes, overwrite}
use Rattle.words.proofs.Words.{written_zone}
use Rattle.list.specs.Insert.{covered, outside, away, placed, overflow, insert}
use Rattle.list.specs.Slots.{list_at, Slot, Holds, Kept, Placement, InsertAs}
use Rattle.list.specs.Steps.{AppendAs}
use Rattle.list.specs.declared.Overflow.{Overflow}
use Rattle.list.proofs.Slots.{list_at_length, holds_more, kept_trans, kept_within, kept_written}

module _ (z : Zone) (L : List Zone) where
  pub insert_away : covered z L ≡ true → insert z L ≡ away
  unfolding insert
  insert_away e = rw e

  pub insert_placed : covered z L ≡ false → length (outside z L) < 128 → insert z L ≡ placed (outside z L ++ (z ∷ []))
  unfolding insert
  insert_placed e h = rw (e, lt-ltb (length (outside z L)) 128 h)

  pub insert_overflow : covered z L ≡ false → 128 ≤ length (outside z L) → insert z L ≡ overflow
  unfolding insert
  insert_overflow e h = rw (e, le-ltb (length (outside z L)) 128 h)

-- ---- a put into a slot

-- the six words of a zone hold it
pub held : (z : Zone) {us : List ℤ} (vs : List ℤ) → us ≡ overwrite vs 0 (codes z) → 6 ≤ length vs → zone_at us 0 ≡ z
held z {us} vs e h = ap (λ (ws : List ℤ). zone_at ws 0) e ∙ written_zone vs 0 z (omega arith)

-- the zones that stay when z goes into the list of n: m of them, among the words us
pub record Stays (z : Zone) (ws : List ℤ) (base n : ℕ) (us : List ℤ) (m : ℕ) : Type 0 where
  pub new : covered z (list_at ws base n) ≡ false
  pub left : Holds us base m (outside z (list_at ws base n))
  pub kept : Kept base 768 ws us
  pub same : 128 ≤ m → us ≡ ws

module _ {z : Zone} {ws us : List ℤ} {base n m : ℕ} (s : Stays z ws base n us m) where
  pub stay_slot : Slot ws base n → Slot us base m
  stay_slot slot = record { few = s.left.few; room = omega (arith, slot.room, s.kept.same_length) }

  -- z behind those that stay
  pub put_last : {vs : List ℤ} {j : ℕ} → base + 768 ≤ length ws → AppendAs z us base m vs (Ok j) → Placement z ws base n vs j
  put_last {vs} {j} fits a =
      let room : base + 768 ≤ length us = omega (arith, s.kept.same_length) in
      let e = a.2 in
      let h = a.1 in
      subst (Placement z ws base n vs) (sym a.0)
      (record {
        list = outside z (list_at ws base n) ++ (z ∷ []);
        value = insert_placed z (list_at ws base n) s.new (omega (arith, s.left.count, h));
        holds = subst (λ (xs : List ℤ). Holds xs base (m + 1) (outside z (list_at ws base n) ++ (z ∷ []))) (sym e) (holds_more z s.left h room);
        kept = subst (λ (xs : List ℤ). Kept base 768 ws xs) (sym e) (kept_trans s.kept (kept_within (omega arith) (omega (arith, h)) (kept_written us (base + m * 6) z (omega (arith, h)))));
      })

  -- there is room for it unless all of them do
  pub no_place : {vs : List ℤ} {e : Overflow} → AppendAs z us base m vs (Err e) → InsertAs z ws base n vs (Err e)
  no_place a = (insert_overflow z (list_at ws base n) s.new (omega (arith, s.left.count, a.0)), a.1 ∙ s.same a.0)

-- ---- a list that grows

pub holds_same : (ws : List ℤ) (base n : ℕ) → n ≤ 128 → Holds ws base n (list_at ws base n)
holds_same ws base n h = record { count = list_at_length ws base n; few = h; zones = refl }
