-- A list that grows by one put.
use Rattle.std.specs.Prelude.{Option, Some, None, Result, Ok, Err}
use mathlib.Core.Path.{◌≡◌, refl, sym, subst}
use mathlib.Core.List.{List, [], ◌∷◌}
use Prim.Native.Nat.{ℕ}
use native.Mathlib.Omega.{arith}
use lib.IntN.{ℤ}
use Rattle.zone.specs.declared.Zone.{Zone}
use Rattle.list.specs.Insert.{overflow, insert_each}
use Rattle.list.specs.Slots.{list_at, Free, Holds, Kept, InsertAs}
use Rattle.list.specs.declared.Overflow.{Overflow}
use Rattle.growing.specs.declared.Latest.{Latest}
use Rattle.growing.specs.declared.Growing.{Growing}
use Rattle.growing.specs.Growth.{Stands, NoPair, Growth, GrowsAs}
use Rattle.growing.specs.Steps.{Takes, GrownBy}
use Rattle.list.proofs.Slots.{kept_refl}
use Rattle.list.proofs.Puts.{holds_same}
use Rattle.growing.proofs.Loops.{alters_placed}
use Rattle.growing.proofs.Late.{late_placed}

module _ (z : Zone) (ws vs : List ℤ) (target : ℕ) (g : Growing) (s : Stands ws target g) where
  -- what the answer to a put means for the puts of one zone: turned away ..
  grown_away : InsertAs z ws target g.count vs (Ok None) → Growth (insert_each (Some z ∷ []) (list_at ws target g.count)) NoPair g (list_at ws target g.count) vs target g
  unfolding insert_each
  grown_away a =
      record {
        list = list_at ws target g.count;
        value = rw a.0;
        holds = subst (λ (xs : List ℤ). Holds xs target g.count (list_at ws target g.count)) (sym a.1) (holds_same ws target g.count s.slot.few);
        alters = λ S m. m;
        composed = 0;
        counted = refl;
        pairs = omega arith;
        late = s.late;
      }

  -- .. placed ..
  grown_placed : {n : ℕ} {latest : Latest} → InsertAs z ws target g.count vs (Ok (Some n)) → Takes g.latest z latest
      → Growth (insert_each (Some z ∷ []) (list_at ws target g.count)) NoPair g (list_at ws target g.count) vs target (record { count = n; changed = 1; pairs = g.pairs; latest = latest })
  unfolding insert_each
  grown_placed p t =
      record {
        list = p.list;
        value = rw p.value;
        holds = p.holds;
        alters = λ S m. alters_placed g.changed z (list_at ws target g.count) m p.value;
        composed = 0;
        counted = refl;
        pairs = omega arith;
        late = late_placed z (list_at ws target g.count) p.value s.late t;
      }

  -- .. or it would be the 129th
  grown_overflow : {e : Overflow} → InsertAs z ws target g.count vs (Err e) → (insert_each (Some z ∷ []) (list_at ws target g.count) ≡ overflow) × Free vs target
  unfolding insert_each
  grown_overflow a = (rw a.0, subst (λ (xs : List ℤ). Free xs target) (sym a.1) s.slot.room)

  -- all three
  pub grown_as : (a : Result (Option ℕ) Overflow) → InsertAs z ws target g.count vs a → (r : Result Growing Overflow) → GrownBy g z a r → GrowsAs (Some z ∷ []) NoPair g ws target vs r
  grown_as (Ok None) a r e = subst (GrowsAs (Some z ∷ []) NoPair g ws target vs) (sym e) (grown_away a)
  grown_as (Ok (Some n)) a r e = subst (GrowsAs (Some z ∷ []) NoPair g ws target vs) (sym e.2) (grown_placed a e.1)
  grown_as (Err o) a r e = subst (GrowsAs (Some z ∷ []) NoPair g ws target vs) (sym e) (grown_overflow a)

  pub grown_kept : (r : Result (Option ℕ) Overflow) → InsertAs z ws target g.count vs r → Kept target 768 ws vs
  grown_kept (Ok None) a = subst (λ (xs : List ℤ). Kept target 768 ws xs) (sym a.1) (kept_refl target 768 ws)
  grown_kept (Ok (Some k)) p = p.kept
  grown_kept (Err e) a = subst (λ (xs : List ℤ). Kept target 768 ws xs) (sym a.1) (kept_refl target 768 ws)
