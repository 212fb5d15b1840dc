-- The pieces of what lies in a composition of inner zones.
use Rattle.std.specs.Prelude.{Some}
use mathlib.Core.Logic.Iff
use mathlib.Core.Logic.{◌↔◌, ◌⊎◌, inl, inr, ⊎_map, ⊎_elim}
use mathlib.Core.List.{List, [], ◌∷◌}
use Prim.Native.Nat.{ℕ, suc, ◌≤◌}
use native.Mathlib.Omega.{arith}
use Rattle.limit.specs.Time.{Time, ◌≈ᵀ◌}
use Rattle.zone.specs.declared.Zone.{Zone}
use Rattle.zone.specs.Zone.{In}
use Rattle.zone.proofs.Laws.{compose_cut, compose_glue, in_same}
use Rattle.limit.proofs.Times.{≈-refl, ≈-sym}
use Rattle.star.specs.Star.{value, Star}
use Rattle.star.specs.Pieces.{Pieces, Pieces.none, Pieces.more}
use Rattle.list.specs.Members.{Lies, AllProper}
use Rattle.list.proofs.Coverage.{puts, puts_lies, covered_lies}
use Rattle.star.proofs.Rounds.{star_rounds}
use Rattle.star.proofs.Composed.{Composed, Composed.single, Composed.extend, composed_proper, last_made, last_covers}
use Rattle.list.proofs.Members.{lies, offered_one}

-- ---- the pieces of a star

module _ {from to : ℕ} {inner : List Zone} (proper : AllProper from to inner) where
  -- a stretch in a composition of j inner zones is cut into j pieces
  pub composed_pieces : {j : ℕ} {z : Zone} → Composed inner j z → (x y : Time) → In z x y → Pieces (Lies inner) j x y
  composed_pieces (single m) x y i = more (none (≈-refl x)) (lies m i)
  composed_pieces (extend {w = w} o m e) x y i =
      let c = compose_cut (composed_proper proper o).tight (proper w m).tight e x y i in
      more (composed_pieces o x c.0 c.1) (lies m c.2)

  -- a stretch that is cut into pieces is a point, or lies in a composition of inner zones
  pub pieces_composed : {n : ℕ} {x y : Time} → Pieces (Lies inner) n x y → (x ≈ᵀ y) ⊎ ((j : ℕ) × (z : Zone) × Composed inner j z × In z x y)
  pieces_composed (none e) = inl e
  pieces_composed (more {x = x} {t = t} {y = y} p l) = inr (⊎_elim first next (pieces_composed p))
    where
      first : x ≈ᵀ t → (j : ℕ) × (z : Zone) × Composed inner j z × In z x y
      first e = (1, l.in_zone, single l.among, in_same (≈-sym e) (≈-refl y) l.member)

      next : (j : ℕ) × (z : Zone) × Composed inner j z × In z x t → (j : ℕ) × (z : Zone) × Composed inner j z × In z x y
      next c =
          let g = compose_glue (composed_proper proper c.2).tight (proper l.in_zone l.among).tight x t y c.3 l.member in
          (suc c.0, g.0, extend c.2 l.among g.1, g.2)

  module _ {diagonal : Zone} {r : ℕ} {G : List Zone} (s : Star inner diagonal (value G r)) (x y : Time) where
    -- in a star's list lie the stretches of the rounds' last list and of the diagonal
    star_parts : Lies G x y ↔ (Lies (star_rounds s).0 x y ⊎ In diagonal x y)
    star_parts = let b = star_rounds s in Iff.trans (puts_lies (puts (Some diagonal ∷ []) b.0 b.2) x y) (⊎_map (λ l. l) (offered_one diagonal x y).0, ⊎_map (λ l. l) (offered_one diagonal x y).1)

    -- a stretch in the list is cut into at most as many pieces as there were rounds
    pub star_cut : (In diagonal x y → x ≈ᵀ y) → Lies G x y → (n : ℕ) × (n ≤ r) × Pieces (Lies inner) n x y
    star_cut point l = ⊎_elim cut (λ i. (0, omega arith, none (point i))) (star_parts.0 l)
      where
        cut : Lies (star_rounds s).0 x y → (n : ℕ) × (n ≤ r) × Pieces (Lies inner) n x y
        cut k = let c = last_made proper (star_rounds s).1 k.in_zone k.among in (c.0, c.2, composed_pieces c.1 x y k.member)

    -- a stretch that is cut into pieces lies in the list
    pub star_glue : (x ≈ᵀ y → In diagonal x y) → {n : ℕ} → Pieces (Lies inner) n x y → Lies G x y
    star_glue point p = star_parts.1 (⊎_elim (λ e. inr (point e)) (λ c. inl (covered_lies (last_covers proper (star_rounds s).1 c.2) c.3)) (pieces_composed p))
