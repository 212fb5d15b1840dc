-- What a pair loop goes through: the answer for each left zone and each right zone, and no other.
use Rattle.std.specs.Prelude.{Option}
use mathlib.Core.Path.{◌≡◌, refl, sym, ap, ◌∙◌}
use mathlib.Core.Logic.{◌⊎◌, inl, inr}
use mathlib.Core.List.Memᴰ
use mathlib.Core.List.Memᴰ.{append_cases}
use mathlib.Core.List.Memᴰ.{append_left}
use mathlib.Core.List.Memᴰ.{append_right}
use mathlib.Core.List.Memᴰ.{head}
use mathlib.Core.List.Memᴰ.{not-nil}
use mathlib.Core.List.Memᴰ.{tail}
use mathlib.Core.List.{List, [], ◌∷◌, ◌++◌, map, Memᴰ, append_assoc, map-append}
use Rattle.zone.specs.declared.Zone.{Zone}
use Rattle.pairs.specs.Pairs.{Operation, apply, pairs, beside, crossed}
use Rattle.pairs.specs.Row.{applied}

-- r is the answer for a zone of A and a zone of B
abbrev pub Paired : Operation → List Zone → List Zone → Option Zone → Type 0
Paired op A B r = (z w : Zone) × Memᴰ z A × Memᴰ w B × (apply op z w ≡ r)

pub pairs_mem : (op : Operation) (A B : List Zone) {r : Option Zone} → Memᴰ r (pairs op A B) → Paired op A B r
unfolding pairs
pairs_mem op [] B m = absurd (not-nil m)
pairs_mem op (z ∷ A) B {r} m = go (λ n. pairs_mem op A B n) (append_cases (map (apply op z) B) m)
  where
    go : (Memᴰ r (pairs op A B) → Paired op A B r) → Memᴰ r (map (apply op z) B) ⊎ Memᴰ r (pairs op A B) → Paired op (z ∷ A) B r
    go below (inl n) = let k = Memᴰ.of_map (apply op z) B n in (z, k.0, head refl, k.1, k.2)
    go below (inr n) = let k = below n in (k.0, k.1, tail k.2, k.3, k.4)

pub mem_pairs : (op : Operation) {z w : Zone} {A B : List Zone} → Memᴰ z A → Memᴰ w B → Memᴰ (apply op z w) (pairs op A B)
unfolding pairs
mem_pairs op {w = w} {B = B} (head {x = a} {xs = A} e) n = append_left (pairs op A B) (Memᴰ.cast (ap (λ (k : Zone). apply op k w) e) (Memᴰ.map (apply op a) n))
mem_pairs op {B = B} (tail {x = a} m) n = append_right (map (apply op a) B) (mem_pairs op m n)

pub pairs_append : (op : Operation) (A B C : List Zone) → pairs op (A ++ B) C ≡ pairs op A C ++ pairs op B C
unfolding pairs
pairs_append op [] B C = refl
pairs_append op (z ∷ A) B C = ap (λ (k : List (Option Zone)). map (apply op z) C ++ k) (pairs_append op A B C) ∙ sym (append_assoc (map (apply op z) C) (pairs op A C) (pairs op B C))

-- the answers are those for the pairs
beside_applied : (op : Operation) (z : Zone) (B : List Zone) → map (applied op) (beside z B) ≡ map (apply op z) B
beside_applied op z [] = refl
beside_applied op z (w ∷ B) = ap (λ (k : List (Option Zone)). apply op z w ∷ k) (beside_applied op z B)

pub crossed_applied : (op : Operation) (A B : List Zone) → map (applied op) (crossed A B) ≡ pairs op A B
unfolding crossed pairs
crossed_applied op [] B = refl
crossed_applied op (z ∷ A) B = map-append (applied op) (beside z B) (crossed A B) ∙ (λ i. beside_applied op z B i ++ crossed_applied op A B i)
