-- Zones read from the words of a buffer while a slot beside them is written.
use mathlib.Core.Path.{◌≡◌, sym, ap, subst}
use mathlib.Core.Logic.{◌⊎◌, inl, inr}
use mathlib.Core.List.{List, Memᴰ}
use Prim.Native.Nat.{ℕ, zero, suc, ◌+◌, ◌*◌, ◌≤◌, ◌<◌}
use native.Mathlib.Omega.{arith}
use lib.IntN.{ℤ}
use Rattle.zone.specs.Zone.{Proper}
use Rattle.words.specs.Words.{zone_at}
use Rattle.list.specs.Slots.{list_at, Kept, Disjoint, Sound}
use Rattle.pairs.specs.Operands.{Supply}
use Rattle.pairs.specs.Row.{Zones}
use Rattle.list.proofs.Slots.{list_at_kept, still_source, still_slot}
use Rattle.growing.proofs.Going.{zone_kept}

pub listed_there : (ws : List ℤ) (base n i : ℕ) → i < n → Memᴰ (zone_at ws (base + i * 6)) (list_at ws base n)
unfolding list_at
listed_there ws base zero i l = absurd (omega arith)
listed_there ws base (suc n) zero l = let e : base + 0 * 6 ≡ base = omega arith in Memᴰ.head (ap (zone_at ws) e)
listed_there ws base (suc n) (suc i) l =
    let e : base + 6 + i * 6 ≡ base + suc i * 6 = omega arith in
    Memᴰ.tail (subst (λ (a : ℕ). Memᴰ (zone_at ws a) (list_at ws (base + 6) n)) e (listed_there ws (base + 6) n i (omega arith)))

-- the list and its slot, after puts into the slot
pub still_supply : {ws vs : List ℤ} {from n target count m : ℕ} → Supply ws from n target count → Kept target 768 ws vs → m ≤ 128 → Supply vs from n target m
still_supply s k h = record { list = still_source _ _ s.list k s.apart; slot = still_slot s.slot k h; apart = s.apart }

-- ---- zones beside the slot

apart_of : {from target : ℕ} (n : ℕ) → Disjoint from target → n ≤ 128 → (from + n * 6 ≤ target) ⊎ (target + 768 ≤ from)
apart_of n (inl h) few = inl (omega arith)
apart_of n (inr h) few = inr (omega arith)

pub supply_zones : {ws : List ℤ} {from n target count : ℕ} → Supply ws from n target count → Zones ws from n target
supply_zones {n = n} s = record { room = omega (arith, s.list.room, s.list.few); sound = s.list.sound; apart = apart_of n s.apart s.list.few }

pub still_zones : {ws vs : List ℤ} {from n target : ℕ} → Zones ws from n target → Kept target 768 ws vs → Zones vs from n target
still_zones {from = from} {n = n} z k = record { room = omega (arith, z.room, k.same_length); sound = subst Sound (sym (list_at_kept from n k z.apart)) z.sound; apart = z.apart }

-- the i-th of them
module _ {ws : List ℤ} {from n target : ℕ} (z : Zones ws from n target) (i : ℕ) (l : i < n) where
  apart_there : (from + i * 6 + 6 ≤ target) ⊎ (target + 768 ≤ from + i * 6)
  apart_there = go z.apart
    where
      go : (from + n * 6 ≤ target) ⊎ (target + 768 ≤ from) → (from + i * 6 + 6 ≤ target) ⊎ (target + 768 ≤ from + i * 6)
      go (inl h) = inl (omega arith)
      go (inr h) = inr (omega arith)

  pub proper_there : Proper 0 1_000_000 (zone_at ws (from + i * 6))
  proper_there = z.sound _ (listed_there ws from n i l)

  -- read from the words as they are now
  pub read_there : {vs : List ℤ} → Kept target 768 ws vs → zone_at vs (from + i * 6) ≡ zone_at ws (from + i * 6)
  read_there k = zone_kept (from + i * 6) k apart_there

  pub one_there : Zones ws (from + i * 6) 1 target
  unfolding list_at
  one_there = record { room = omega (arith, z.room); sound = λ y m. subst (Proper 0 1_000_000) (sym (mathlib.Core.List.Memᴰ.eq_of_singleton m)) proper_there; apart = apart_there }

-- one zone alone
module _ {ws : List ℤ} {at target : ℕ} (z : Zones ws at 1 target) where
  here : at + 0 * 6 ≡ at
  here = omega arith

  pub proper_one : Proper 0 1_000_000 (zone_at ws at)
  proper_one = subst (λ (a : ℕ). Proper 0 1_000_000 (zone_at ws a)) here (proper_there z 0 (omega arith))

  pub read_one : {vs : List ℤ} → Kept target 768 ws vs → zone_at vs at ≡ zone_at ws at
  read_one {vs} k = subst (λ (a : ℕ). zone_at vs a ≡ zone_at ws a) here (read_there z 0 (omega arith) k)
