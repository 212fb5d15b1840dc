-- Words written in one slot or two, and lists copied between slots.
use mathlib.Core.Path.{◌≡◌, refl, ◌∙◌}
use mathlib.Core.Logic.{◌⊎◌, inl, inr}
use mathlib.Core.List.{List}
use Prim.Native.Nat.{ℕ, ◌+◌, ◌*◌, ◌≤◌, ◌<◌}
use native.Mathlib.Omega.{arith}
use lib.IntN.{ℤ}
use Rattle.zone.specs.declared.Zone.{Zone}
use Rattle.words.specs.Words.{word}
use Rattle.list.specs.Slots.{list_at, Holds, Kept, KeptBoth, Disjoint, Copied}
use Rattle.list.proofs.Slots.{kept_refl, kept_within}

-- words written in one slot, then in another
pub kept_both : {a b : ℕ} {ws us vs : List ℤ} → Kept b 768 ws us → Kept a 768 us vs → KeptBoth a b ws vs
kept_both {a} {b} {ws} {us} {vs} p q =
    record {
      same_length = q.same_length ∙ p.same_length;
      others = λ k h g. outside q k h ∙ outside p k g;
    }
  where
    outside : {c : ℕ} {xs ys : List ℤ} → Kept c 768 xs ys → (k : ℕ) → (k < c) ⊎ (c + 768 ≤ k) → word ys k ≡ word xs k
    outside w k (inl h) = w.below k h
    outside w k (inr h) = w.above k h

pub kept_one : {a b : ℕ} {ws vs : List ℤ} → Kept a 768 ws vs → KeptBoth a b ws vs
kept_one {a} {b} {ws} k = kept_both (kept_refl b 768 ws) k

pub both_trans : {a b : ℕ} {us ws vs : List ℤ} → KeptBoth a b us ws → KeptBoth a b ws vs → KeptBoth a b us vs
both_trans p q = record { same_length = q.same_length ∙ p.same_length; others = λ k h g. q.others k h g ∙ p.others k h g }

pub kept_neither : (a b : ℕ) (ws : List ℤ) → KeptBoth a b ws ws
kept_neither a b ws = record { same_length = refl; others = λ k h g. refl }

-- ---- two slots

pub disjoint_swap : {a b : ℕ} → Disjoint a b → Disjoint b a
disjoint_swap (inl h) = inr h
disjoint_swap (inr h) = inl h

-- ---- a list copied from slot to slot

-- words of one slot may be copied to another, before it or past it
pub copy_order : {list n copy : ℕ} → Disjoint list copy → n ≤ 128 → (copy ≤ list) ⊎ (list + n * 6 ≤ copy)
copy_order (inl h) few = inr (omega arith)
copy_order (inr h) few = inl (omega arith)

pub copy_kept : {ws us : List ℤ} {list n copy : ℕ} → n ≤ 128 → Copied list copy (n * 6) ws us → Kept copy 768 ws us
copy_kept few c = kept_within (omega arith) (omega arith) c.kept

-- a list brought to its slot
pub brought : {ws us : List ℤ} {at n target : ℕ} {F : List Zone} → Holds ws at n F → list_at us target n ≡ list_at ws at n → Holds us target n F
brought h e = record { count = h.count; few = h.few; zones = e ∙ h.zones }
