-- A list of zones of any number for `*`: the diagonal, and all compositions of at most n + (to − from) inner zones, n their number.
use Rattle.std.specs.Prelude.{Some}
use mathlib.Core.Path.{◌≡◌, refl, sym, subst}
use mathlib.Core.Bool.{Bool, true, false}
use mathlib.Core.Logic.Iff
use mathlib.Core.Logic.{◌↔◌, ⊎_map, ⊎_elim}
use mathlib.Core.List.Memᴰ
use mathlib.Core.List.Memᴰ.{append_cases}
use mathlib.Core.List.Memᴰ.{append_left}
use mathlib.Core.List.Memᴰ.{append_right}
use mathlib.Core.List.Memᴰ.{cases_cons}
use mathlib.Core.List.Memᴰ.{not-nil}
use mathlib.Core.List.{List, [], ◌∷◌, ◌++◌, Memᴰ}
use Prim.Native.Nat.{ℕ, zero, suc, ◌+◌, ◌-◌, ◌≤◌}
use native.Mathlib.Omega.{arith}
use lib.Dec.{T}
use lib.ListN.{length}
use Rattle.limit.specs.Time.{Time}
use Rattle.zone.specs.declared.Zone.{Zone}
use Rattle.zone.specs.Zone.{Proper, Stretch, diagonal}
use Rattle.zone.proofs.Laws.{contains_refl, diagonal_members, proper_diagonal}
use Rattle.list.specs.Insert.{covered}
use Rattle.list.specs.Members.{Lies, AllProper, Covered}
use Rattle.list.proofs.Coverage.{covered_is, covered_lies}
use Rattle.pairs.specs.Pairs.{pairs}
use Rattle.pairs.specs.declared.Operation.TheVariants.{Compose}
use Rattle.pairs.proofs.Pairs.{pairs_mem, mem_pairs}
use Rattle.absence.proofs.Theorems.{lies_cons}
use Rattle.star.specs.Pieces.{Pieces, Pieces.none}
use Rattle.star.proofs.Composed.{Composed, Composed.single, Composed.extend, composed_proper, step}
use Rattle.star.proofs.Bound.{composed_bound}
use Rattle.star.proofs.Members.{composed_pieces, pieces_composed}
use Rattle.decision.proofs.Unions.{of_mem, mem_of, all_compositions}

-- all compositions of at most k inner zones
unfoldable upto : List Zone → ℕ → List Zone
upto inner zero = []
upto inner (suc k) = inner ++ all_compositions (upto inner k) inner

module _ {inner : List Zone} where
  -- each of them is one ..
  made : (k : ℕ) {x : Zone} → Memᴰ x (upto inner k) → (j : ℕ) × Composed inner j x × (j ≤ k)
  unfolding upto
  made zero m = absurd (not-nil m)
  made (suc k) {x} m =
      ⊎_elim (λ n. (1, single n, omega arith)) (λ n. longer (λ v l. made k l) (of_mem (pairs Compose (upto inner k) inner) n)) (append_cases inner m)
    where
      longer : ((v : Zone) → Memᴰ v (upto inner k) → (j : ℕ) × Composed inner j v × (j ≤ k)) → Memᴰ (Some x) (pairs Compose (upto inner k) inner)
          → (j : ℕ) × Composed inner j x × (j ≤ suc k)
      longer below n =
          let p = pairs_mem Compose (upto inner k) inner n in
          let b = below p.0 p.2 in
          (suc b.0, extend b.1 p.3 p.4, let h = b.2 in omega arith)

  -- .. and each one is among them
  reached : (k : ℕ) {j : ℕ} {x : Zone} → Composed inner j x → j ≤ k → Memᴰ x (upto inner k)
  unfolding upto
  reached zero (single m) h = absurd (omega arith)
  reached zero (extend o m e) h = absurd (omega arith)
  reached (suc k) (single m) h = append_left (all_compositions (upto inner k) inner) m
  reached (suc k) (extend o m e) h =
      append_right inner (mem_of (pairs Compose (upto inner k) inner) (Memᴰ.cast (sym e) (mem_pairs Compose (reached k o (omega arith)) m)))

  module _ {from to : ℕ} (proper : AllProper from to inner) where
    -- all of them are proper
    upto_proper : (k : ℕ) → AllProper from to (upto inner k)
    upto_proper k z m = composed_proper proper (made k m).1

    -- a composition of at most one zone more than n + (to − from) lies inside one of at most n + (to − from)
    one_more : {j : ℕ} {x : Zone} → Composed inner j x → j ≤ suc (length inner + (to - from)) → Covered x (upto inner (length inner + (to - from)))
    one_more {j} {x} o h = go (covered x (upto inner (length inner + (to - from)))) refl
      where
        go : (b : Bool) → covered x (upto inner (length inner + (to - from))) ≡ b → Covered x (upto inner (length inner + (to - from)))
        go true e = (covered_is x (upto inner (length inner + (to - from)))).0 (subst T (sym e) tt)
        go false e =
            let k = length inner + (to - from) in
            let b = composed_bound proper j x (λ i t ot lt w. subst T e ((covered_is x (upto inner k)).1 (t, reached k ot (omega arith), w))) o in
            (x, reached k o b, contains_refl x)

    -- so does a composition of however many
    any_number : {j : ℕ} {x : Zone} → Composed inner j x → Covered x (upto inner (length inner + (to - from)))
    any_number (single m) = one_more (single m) (omega arith)
    any_number (extend o m e) =
        let k = length inner + (to - from) in
        step proper o m e (any_number o) (upto_proper k)
        (λ v n. let p = pairs_mem Compose (upto inner k) inner n in
        let b = made k p.2 in
        one_more (extend b.1 p.3 p.4) (let h = b.2 in omega arith))

-- the diagonal, and as many compositions as are needed
pub repetition : ℕ → ℕ → List Zone → List Zone
repetition from to A = diagonal from to ∷ upto A (length A + (to - from))

module _ {from to : ℕ} (A : List Zone) (proper : AllProper from to A) where
  -- in it lie the stretches that are cut into pieces, of any number, that each lie in the inner list
  pub repetition_lies : (x y : Time) → Stretch from to x y → Lies (repetition from to A) x y ↔ ((n : ℕ) × Pieces (Lies A) n x y)
  unfolding repetition
  repetition_lies x y s =
      let k = length A + (to - from) in
      let d = diagonal_members from to x y in
      Iff.trans (lies_cons (diagonal from to) (upto A k) x y) (
        ⊎_elim (λ i. (0, none (d.0 i).1)) (λ l. let m = made k l.among in (m.0, composed_pieces proper m.1 x y l.member)),
        λ p. ⊎_map (λ e. d.1 (s.0, e, s.2)) (λ c. covered_lies (any_number proper c.2) c.3) (pieces_composed proper p.1),
      )

  pub repetition_proper : from ≤ to → AllProper from to (repetition from to A)
  unfolding repetition
  repetition_proper h z m =
      ⊎_elim (λ e. subst (Proper from to) (sym e) (proper_diagonal from to h)) (upto_proper proper (length A + (to - from)) z) (cases_cons m)
