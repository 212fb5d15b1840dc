-- Blocks of zones beside a slot that is written.
use mathlib.Core.Path.{◌≡◌, sym, ap, subst, ◌∙◌}
use mathlib.Core.Logic.{◌⊎◌, inl, inr}
use mathlib.Core.List.Memᴰ
use mathlib.Core.List.{List, ◌++◌, Memᴰ}
use Prim.Native.Nat.{ℕ, ◌+◌, ◌-◌, ◌*◌, ◌≤◌, ◌<◌, min}
use native.Mathlib.Omega.{arith}
use lib.IntN.{ℤ}
use Rattle.zone.specs.declared.Zone.{Zone}
use Rattle.words.specs.Words.{word}
use Rattle.list.specs.Slots.{list_at, Kept}
use Rattle.hulls.specs.Hulls.{Covers, block, Hulls}
use Rattle.pairs.specs.Row.{Zones}
use Rattle.list.proofs.Slots.{below_or_not, list_at_split, list_at_kept}

-- a list from block b on is that block, and the list from the next on
pub block_split : (ws : List ℤ) (base n b : ℕ) → list_at ws (base + b * 16 * 6) (n - b * 16) ≡ block ws base n b ++ list_at ws (base + (b + 1) * 16 * 6) (n - (b + 1) * 16)
unfolding list_at
block_split ws base n b = go (below_or_not (n - b * 16) 16)
  where
    go : (n - b * 16 < 16) ⊎ (16 ≤ n - b * 16) → list_at ws (base + b * 16 * 6) (n - b * 16) ≡ block ws base n b ++ list_at ws (base + (b + 1) * 16 * 6) (n - (b + 1) * 16)
    go (inl h) =
        let e : min (n - b * 16) 16 ≡ n - b * 16 = omega arith in
        let f : n - (b + 1) * 16 ≡ 0 = omega arith in
        let g : n - b * 16 ≡ (n - b * 16) + 0 = omega arith in
        ap (list_at ws (base + b * 16 * 6)) g ∙ list_at_split ws (base + b * 16 * 6) (n - b * 16) 0 ∙ rw (e, f)
    go (inr h) =
        let e : min (n - b * 16) 16 ≡ 16 = omega arith in
        let f : n - b * 16 ≡ 16 + (n - (b + 1) * 16) = omega arith in
        let a : base + b * 16 * 6 + 16 * 6 ≡ base + (b + 1) * 16 * 6 = omega arith in
        ap (list_at ws (base + b * 16 * 6)) f ∙ list_at_split ws (base + b * 16 * 6) 16 (n - (b + 1) * 16) ∙ rw (e, a)

module _ {ws : List ℤ} {from n target : ℕ} (z : Zones ws from n target) (b : ℕ) (l : b * 16 < n) where
  pub zones_block : Zones ws (from + b * 16 * 6) (min (n - b * 16) 16) target
  zones_block = record { room = omega (arith, z.room); sound = λ y m. z.sound y (within m); apart = go z.apart }
    where
      within : {y : Zone} → Memᴰ y (block ws from n b) → Memᴰ y (list_at ws from n)
      within {y} m =
          let e : n ≡ b * 16 + (n - b * 16) = omega arith in
          subst (Memᴰ y) (sym (ap (list_at ws from) e ∙ list_at_split ws from (b * 16) (n - b * 16)))
          (Memᴰ.append_right (list_at ws from (b * 16)) (subst (Memᴰ y) (sym (block_split ws from n b)) (Memᴰ.append_left (list_at ws (from + (b + 1) * 16 * 6) (n - (b + 1) * 16)) m)))

      go : (from + n * 6 ≤ target) ⊎ (target + 768 ≤ from) → (from + b * 16 * 6 + min (n - b * 16) 16 * 6 ≤ target) ⊎ (target + 768 ≤ from + b * 16 * 6)
      go (inl h) = inl (omega arith)
      go (inr h) = inr (omega arith)

-- the hulls, after puts into the slot
pub still_hulls : {hs ws vs : List ℤ} {from n target : ℕ} → Hulls hs ws from n → Zones ws from n target → Kept target 768 ws vs → Hulls hs vs from n
still_hulls {hs = hs} {from = from} {n = n} h z k =
    record { cover = λ s b l. subst (Covers (word hs (b * 2)) (word hs (b * 2 + 1))) (sym (list_at_kept (from + b * 16 * 6) (min (n - b * 16) 16) k (zones_block z b l).apart)) (h.cover s b l) }
