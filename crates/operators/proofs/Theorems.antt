-- The theorems on the list of each operator: what lies in it, and that it is well formed where the lists of its operands are. The page that the
-- crates above cite. x, y and t are times num / den of any denominators.
use Rattle.std.specs.Prelude.{Option, Some, None}
use mathlib.Core.Path.{◌≡◌, subst}
use mathlib.Core.Logic.Iff
use mathlib.Core.Logic.{◌↔◌, ◌⊎◌, ⊎_map, ⊎_elim}
use mathlib.Core.List.Memᴰ.{append_cases}
use mathlib.Core.List.Memᴰ.{not-nil}
use mathlib.Core.List.{List, [], ◌∷◌, ◌++◌, map}
use Prim.Native.Nat.{ℕ}
use Rattle.limit.specs.Time.{Time}
use Rattle.zone.specs.declared.Zone.{Zone}
use Rattle.zone.specs.Zone.{InMaybe}
use Rattle.zone.proofs.Laws.{proper_meet, proper_compose}
use Rattle.list.specs.Insert.{listed, insert_each}
use Rattle.pairs.specs.Pairs.{pairs}
use Rattle.pairs.specs.declared.Operation.TheVariants.{Meet, Compose}
use Rattle.operators.specs.Operators.{union, meets, compositions, banded}
use Rattle.list.specs.Members.{Lies, AllProper}
use Rattle.pairs.proofs.Pairs.{pairs_mem}
use Rattle.list.proofs.Members.{nothing_lies, lies_one, mem_zones, offered_zones, offered_append}
use Rattle.operators.proofs.Members.{offered_meets, offered_compositions}
use Rattle.list.proofs.Theorems.{WellFormed, built_lies, built_well}

module _ (A B : List Zone) {L : List Zone} where
  -- `|`: either
  pub union_lies : union A B ≡ listed L → (x y : Time) → Lies L x y ↔ (Lies A x y ⊎ Lies B x y)
  unfolding union
  union_lies e x y = Iff.trans (built_lies (map Some A ++ map Some B) e x y) (Iff.trans (offered_append (map Some A) (map Some B) x y) (
    ⊎_map (offered_zones A x y).0 (offered_zones B x y).0,
    ⊎_map (offered_zones A x y).1 (offered_zones B x y).1,
  ))

  pub union_well : {from to : ℕ} → AllProper from to A → AllProper from to B → union A B ≡ listed L → WellFormed from to L
  unfolding union
  union_well a b e = built_well (map Some A ++ map Some B) e (λ z m. ⊎_elim (λ n. a z (mem_zones A n)) (λ n. b z (mem_zones B n)) (append_cases (map Some A) m))

  -- `&`: both
  pub meets_lies : meets A B ≡ listed L → (x y : Time) → Lies L x y ↔ (Lies A x y × Lies B x y)
  unfolding meets
  meets_lies e x y = Iff.trans (built_lies (pairs Meet A B) e x y) (offered_meets A B x y)

  pub meets_well : {from to : ℕ} → AllProper from to A → meets A B ≡ listed L → WellFormed from to L
  unfolding meets
  meets_well a e = built_well (pairs Meet A B) e (λ z m. let p = pairs_mem Meet A B m in proper_meet p.1 (a p.0 p.2) p.4)

  module _ {from to : ℕ} (a : AllProper from to A) (b : AllProper from to B) (e : compositions A B ≡ listed L) where
    -- `.`: some cut, any fraction
    pub compositions_lies : (x y : Time) → Lies L x y ↔ ((t : Time) × Lies A x t × Lies B t y)
    unfolding compositions
    compositions_lies x y = Iff.trans (built_lies (pairs Compose A B) e x y) (offered_compositions A B x y a b)

    pub compositions_well : WellFormed from to L
    unfolding compositions
    compositions_well = built_well (pairs Compose A B) e (λ z m. let p = pairs_mem Compose A B m in proper_compose (a p.0 p.2) (b p.1 p.3) p.4)

-- `{lo,hi}`: also in the band
pub banded_lies : (b : Option Zone) (A : List Zone) {L : List Zone} → banded b A ≡ listed L → (x y : Time) → Lies L x y ↔ (Lies A x y × InMaybe b x y)
unfolding banded meets
banded_lies (Some b) A e x y = Iff.trans (meets_lies A (b ∷ []) e x y) (λ l. (l.0, (lies_one b x y).0 l.1), λ l. (l.0, (lies_one b x y).1 l.1))
banded_lies None A {L} e x y = (λ l. absurd (nothing_lies (let q : L ≡ [] = cc in subst (λ (K : List Zone). Lies K x y) q l)), λ l. absurd l.1)

pub banded_well : {from to : ℕ} (b : Option Zone) (A : List Zone) {L : List Zone} → AllProper from to A → banded b A ≡ listed L → WellFormed from to L
unfolding banded meets
banded_well (Some b) A a e = meets_well A (b ∷ []) a e
banded_well None A {L} a e = built_well [] (unfold insert_each in e) (λ z m. absurd (not-nil m))
