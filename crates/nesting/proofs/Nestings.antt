-- How two zones lie: as inclusion both ways, and what it means for their members.
use mathlib.Core.Path.{◌≡◌, refl, sym, ap, subst, ◌∙◌}
use mathlib.Core.Bool.{Bool, true, false, cond}
use lib.Dec.{T}
use Rattle.zone.specs.declared.Zone.{Zone}
use Rattle.zone.specs.Zone.{Tight, contains}
use Rattle.zone.proofs.Laws.{contains_members}
use Rattle.limit.proofs.Steps.{with_meaning}
use Rattle.nesting.specs.Nesting.{Nesting, inside, around, apart, nesting, Relates, Nests}

abbrev pub is_inside : Nesting → Bool
is_inside inside = true
is_inside around = false
is_inside apart = false

abbrev pub is_around : Nesting → Bool
is_around inside = false
is_around around = true
is_around apart = false

pub nesting_inside : (z w : Zone) {r : Nesting} → r ≡ nesting z w → contains w z ≡ is_inside r
unfolding nesting
nesting_inside z w e = go (contains w z) (contains z w) ∙ ap is_inside (sym e)
  where
    go : (p q : Bool) → p ≡ is_inside (cond p inside (cond q around apart))
    go true q = refl
    go false true = refl
    go false false = refl

pub nesting_around : (z w : Zone) {r : Nesting} → r ≡ nesting z w → contains w z ≡ false → contains z w ≡ is_around r
unfolding nesting
nesting_around z w e f = go (contains z w) ∙ ap (λ (p : Bool). is_around (cond p inside (cond (contains z w) around apart))) (sym f) ∙ ap is_around (sym e)
  where
    go : (q : Bool) → q ≡ is_around (cond false inside (cond q around apart))
    go true = refl
    go false = refl

-- what the tests of inclusion both ways say of the members
lies : {z w : Zone} → Tight z → Tight w → (p q : Bool) → contains w z ≡ p → contains z w ≡ q → Relates (cond p inside (cond q around apart)) z w
lies {z} {w} h k true q a b = (contains_members w h).0 (subst T (sym a) tt)
lies {z} {w} h k false true a b = ((contains_members z k).0 (subst T (sym b) tt), λ f. subst T a ((contains_members w h).1 f))
lies {z} {w} h k false false a b = (λ f. subst T b ((contains_members z k).1 f), λ f. subst T a ((contains_members w h).1 f))

pub nesting_means : (z w : Zone) {r : Nesting} → r ≡ nesting z w → Nests z w r
unfolding nesting
nesting_means z w e = subst (Nests z w) (sym e) (record { members = λ h k. lies h k (contains w z) (contains z w) refl refl })

-- the answer that both tests give
pub nested_by : (z w : Zone) {p q : Bool} → p ≡ contains w z → q ≡ contains z w
    → (cond p inside (cond q around apart) ≡ nesting z w) × Nests z w (cond p inside (cond q around apart))
unfolding nesting
nested_by z w e f = with_meaning (nesting_means z w) (λ i. cond (e i) inside (cond (f i) around apart))
