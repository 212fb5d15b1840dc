-- Zones of which no two share a stretch: each part is put last, and what is put shares nothing with what is still to come.
use Rattle.std.specs.Prelude.{Option, Some, None}
use mathlib.Core.Path.{◌≡◌, refl, sym, ap, subst, ◌∙◌}
use mathlib.Core.Bool.{cond}
use mathlib.Core.Logic.{⊎_elim}
use mathlib.Core.List.Memᴰ
use mathlib.Core.List.Memᴰ.{append_cases}
use mathlib.Core.List.Memᴰ.{append_left}
use mathlib.Core.List.Memᴰ.{append_right}
use mathlib.Core.List.Memᴰ.{cases_cons}
use mathlib.Core.List.Memᴰ.{head}
use mathlib.Core.List.Memᴰ.{not-nil}
use mathlib.Core.List.Memᴰ.{tail}
use mathlib.Core.List.{List, [], ◌∷◌, ◌++◌, map, map-append, append_assoc, Memᴰ}
use Rattle.limit.specs.Time.{Time}
use Rattle.limit.proofs.Linear.{test}
use Rattle.zone.specs.declared.Zone.{Zone}
use Rattle.zone.specs.Zone.{InMaybe, Proper, contains}
use Rattle.zone.proofs.Laws.{tight_member, contains_in}
use Rattle.parts.specs.Parts.{parts}
use Rattle.parts.specs.Shares.{InSome, ShareNone}
use Rattle.parts.proofs.Laws.{parts_members, parts_share_none}
use Rattle.list.specs.Insert.{outside}
use Rattle.list.specs.Members.{Apart}
use Rattle.list.specs.Slots.{Sound}
use Rattle.list.proofs.Coverage.{Puts, Puts.done, Puts.pass, Puts.stay, Puts.place, outside_mem}
use Rattle.list.proofs.Members.{offered_zones}
use Rattle.absence.specs.Absence.{parts_each}
use Rattle.absence.proofs.Theorems.{each_members}

-- what stands before an answer shares nothing with it
before_none : (A B : List (Option Zone)) (r : Option Zone) {q : Option Zone} → ShareNone (A ++ (r ∷ B)) → Memᴰ q A → (x y : Time) → InMaybe q x y → ¬ InMaybe r x y
before_none [] B r h m x y i j = not-nil m
before_none (a ∷ A) B r h m x y i j =
    ⊎_elim (λ e. h.0 x y (subst (λ (p : Option Zone). InMaybe p x y) e i) (r, append_right A (head refl), j)) (λ n. before_none A B r h.1 n x y i j) (cases_cons m)

-- some of them left out
drop_one : (A B : List (Option Zone)) (r : Option Zone) → ShareNone (A ++ (r ∷ B)) → ShareNone (A ++ B)
drop_one [] B r h = h.1
drop_one (a ∷ A) B r h = (λ x y i s. h.0 x y i (s.0, ⊎_elim (append_left (r ∷ B)) (λ m. append_right A (tail m)) (append_cases A s.1), s.2), drop_one A B r h.1)

pub share_front : (A B : List (Option Zone)) → ShareNone (A ++ B) → ShareNone A
share_front [] B h = tt
share_front (a ∷ A) B h = (λ x y i s. h.0 x y i (s.0, append_left B s.1, s.2), share_front A B h.1)

share_outside : (z : Zone) (L : List Zone) (B : List (Option Zone)) → ShareNone (map Some L ++ B) → ShareNone (map Some (outside z L) ++ B)
unfolding outside
share_outside z [] B h = h
share_outside z (y ∷ L) B h = test (contains z y) (λ b. ShareNone (map Some (cond b (outside z L) (y ∷ outside z L)) ++ B)) (λ _. share_outside z L B h.1) (λ _. (λ u v i s. h.0 u v i (s.0, more s.1, s.2), share_outside z L B h.1))
  where
    more : {r : Option Zone} → Memᴰ r (map Some (outside z L) ++ B) → Memᴰ r (map Some L ++ B)
    more m =
        ⊎_elim (λ n. let k = Memᴰ.of_map Some (outside z L) n in append_left B (subst (λ r. Memᴰ r (map Some L)) k.2 (Memᴰ.map Some (outside_mem z L k.1).0)))
        (append_right (map Some L)) (append_cases (map Some (outside z L)) m)

-- the next one, put last
share_last : (L : List Zone) (z : Zone) (B : List (Option Zone)) → ShareNone (map Some L ++ (Some z ∷ B)) → ShareNone (map Some (L ++ (z ∷ [])) ++ B)
share_last L z B h = subst ShareNone (sym (ap_append ∙ append_assoc (map Some L) (Some z ∷ []) B)) h
  where
    ap_append : map Some (L ++ (z ∷ [])) ++ B ≡ (map Some L ++ (Some z ∷ [])) ++ B
    ap_append = ap (λ (A : List (Option Zone)). A ++ B) (map-append Some L (z ∷ []))

-- Puts keep it so.
pub share_puts : {rs : List (Option Zone)} (more : List (Option Zone)) {L M : List Zone} → Puts rs L M → ShareNone (map Some L ++ (rs ++ more)) → ShareNone (map Some M ++ more)
share_puts more done h = h
share_puts more {L = L} (pass {rest = rs} p) h = share_puts more p (drop_one (map Some L) (rs ++ more) None h)
share_puts more {L = L} (stay {z = z} {rest = rs} c p) h = share_puts more p (drop_one (map Some L) (rs ++ more) (Some z) h)
share_puts more {L = L} (place {z = z} {rest = rs} n l p) h = share_puts more p (share_last (outside z L) z (rs ++ more) (share_outside z L (Some z ∷ (rs ++ more)) h))

-- What is put next lies inside no listed zone and around none, since each has a stretch of its own.
pub share_apart : (L : List Zone) (B : List (Option Zone)) {z : Zone} → Sound L → Proper 0 1_000_000 z → ShareNone (map Some L ++ (Some z ∷ B)) → Apart z L
share_apart L B {z = z} s p h y m = (
  λ t. let k = tight_member p.tight in before_none (map Some L) B (Some z) h (Memᴰ.map Some m) k.0 k.1 (contains_in y z t k.0 k.1 k.2) k.2,
  λ t. let k = tight_member (s y m).tight in before_none (map Some L) B (Some z) h (Memᴰ.map Some m) k.0 k.1 k.2 (contains_in z y t k.0 k.1 k.2),
)

-- ---- the parts of each zone of a list

share_append : (A B : List (Option Zone)) → ShareNone A → ShareNone B → ((x y : Time) → InSome A x y → ¬ InSome B x y) → ShareNone (A ++ B)
share_append [] B a b f = b
share_append (r ∷ A) B a b f = (
  λ x y i s. ⊎_elim (λ m. a.0 x y i (s.0, m, s.2)) (λ m. f x y (r, head refl, i) (s.0, m, s.2)) (append_cases A s.1),
  share_append A B a.1 b (λ x y s. f x y (s.0, tail s.1, s.2)),
)

pub parts_each_share : (w : Zone) (L : List Zone) → ShareNone (map Some L) → ShareNone (parts_each w L)
unfolding parts_each
parts_each_share w [] h = tt
parts_each_share w (z ∷ L) h =
    share_append (parts z w) (parts_each w L) (parts_share_none z w) (parts_each_share w L h.1)
    (λ x y s t. h.0 x y ((parts_members z w x y).0 s).0 ((offered_zones L x y).1 ((each_members w L x y).0 t).0))

-- one zone alone
pub share_one : (z : Zone) → ShareNone (Some z ∷ [])
share_one z = (λ x y i s. not-nil s.1, tt)
