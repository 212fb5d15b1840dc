-- What the loops that put zones go by: puts may be made in parts, and a mark that says whether some put was placed tells whether the list
-- has changed.
use Rattle.std.specs.Prelude.{Option, Some, None}
use mathlib.Core.Path.{◌≡◌, refl, sym, subst}
use mathlib.Core.List.Memᴰ
use mathlib.Core.List.{List, [], ◌∷◌, ◌++◌}
use Prim.Native.Nat.{ℕ, zero, suc}
use Rattle.zone.specs.declared.Zone.{Zone}
use Rattle.list.specs.Insert.{Put, away, placed, overflow, insert, after, insert_each, then}
use Rattle.list.specs.Members.{Covered}
use Rattle.growing.specs.Growth.{Alters}
use Rattle.list.proofs.Coverage.{puts_keep, puts_new, placed_puts, placed_new}

-- ---- puts in parts

pub insert_each_append : (rs ss : List (Option Zone)) (L : List Zone) → insert_each (rs ++ ss) L ≡ then (insert_each rs L) (insert_each ss)
unfolding insert_each
insert_each_append [] ss L = refl
insert_each_append (None ∷ rs) ss L = insert_each_append rs ss L
insert_each_append (Some z ∷ rs) ss L = go (λ K. insert_each_append rs ss K) (insert z L)
  where
    go : ((K : List Zone) → insert_each (rs ++ ss) K ≡ then (insert_each rs K) (insert_each ss)) → (p : Put)
        → after p L (insert_each (rs ++ ss)) ≡ then (after p L (insert_each rs)) (insert_each ss)
    go below away = below L
    go below (placed M) = below M
    go below overflow = refl

-- ---- whether the list was altered

-- a put that is placed is never undone (one that is turned away leaves list and mark as they are)
pub alters_placed : (b : ℕ) (z : Zone) {S : List Zone} (M : List Zone) {N : List Zone} → Alters b S M → insert z M ≡ placed N → Alters 1 S N
alters_placed zero z {S} M m e = (z, puts_new (placed_puts z M e) z (Memᴰ.head refl), λ c. placed_new z M e (subst (Covered z) (sym m) c))
alters_placed (suc b) z M m e = (m.0, puts_keep (placed_puts z M e) m.0 m.1, m.2)

-- the mark tells whether the list has changed
pub alters_changed : (b : ℕ) {S M : List Zone} → ¬ (b ≡ 0) → Alters b S M → ¬ (M ≡ S)
alters_changed zero n m e = n refl
alters_changed (suc b) n m e = m.2 (subst (Covered m.0) e m.1)
