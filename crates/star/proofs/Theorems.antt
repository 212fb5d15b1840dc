-- The theorems on the rounds of a star: the page that the crates above cite. x, y and t are times num / den of any denominators.
use Rattle.std.specs.Prelude.{Some}
use mathlib.Core.Path.{◌≡◌}
use mathlib.Core.Logic.{◌↔◌}
use mathlib.Core.List.{List, [], ◌∷◌}
use Prim.Native.Nat.{ℕ, suc, ◌+◌, ◌-◌, ◌≤◌, ◌<◌}
use native.Mathlib.Omega.{arith}
use lib.ListN.{length}
use Rattle.limit.specs.Time.{Time, at_tick, ◌≤ᵀ◌}
use Rattle.zone.specs.declared.Zone.{Zone}
use Rattle.zone.specs.Zone.{diagonal}
use Rattle.zone.proofs.Laws.{proper_diagonal, diagonal_members}
use Rattle.star.specs.Star.{Value, value, begun, spent, Rounds, Star}
use Rattle.star.specs.Pieces.{Pieces}
use Rattle.list.specs.Members.{Lies, AllProper}
use Rattle.star.proofs.Rounds as rounds
use Rattle.star.proofs.Rounds.{rounds_end, star_rounds, after_proper, after_antichain, after_length}
use Rattle.star.proofs.Bound as bound
use Rattle.star.proofs.Members.{star_cut, star_glue}
use Rattle.list.proofs.Theorems.{one_proper, each_proper, each_antichain, each_length, WellFormed}

module _ {from to : ℕ} {inner : List Zone} {r : ℕ} {G : List Zone} (s : Star inner (diagonal from to) (value G r)) where
  -- `*`: some number of consecutive pieces that each lie in the inner list, without bound, zero (start = end) included
  pub star_lies : AllProper from to inner → (x y : Time) → at_tick from ≤ᵀ x → y ≤ᵀ at_tick to → Lies G x y ↔ ((n : ℕ) × Pieces (Lies inner) n x y)
  star_lies h x y a b = (
    λ l. let c = star_cut h s x y (λ i. ((diagonal_members from to x y).0 i).1) l in (c.0, c.2),
    λ p. star_glue h s x y (λ e. (diagonal_members from to x y).1 (a, e, b)) p.1,
  )

  pub star_well : from ≤ to → WellFormed from to inner → WellFormed from to G
  star_well h w =
      let b = star_rounds s in
      let a = (rounds_end b.1).1 in
      record {
        proper = each_proper (Some (diagonal from to) ∷ []) b.0 b.2 (after_proper w.proper a) (one_proper (proper_diagonal from to h));
        antichain = each_antichain (Some (diagonal from to) ∷ []) b.0 b.2 (after_antichain w.antichain a);
        short = each_length (Some (diagonal from to) ∷ []) b.0 b.2 (after_length w.short a);
      }

-- ==== 3. The rounds of a star

-- a star comes to no more than one value
pub star_unique : {inner : List Zone} {diagonal : Zone} {v w : Value} → Star inner diagonal v → Star inner diagonal w → v ≡ w
star_unique = rounds.star_unique

-- all rounds that it begins are finished, but one at most
pub star_almost : {inner : List Zone} {diagonal : Zone} {v : Value} → Star inner diagonal v → begun v ≤ suc (spent v)
star_almost = rounds.star_almost

module _ {from to : ℕ} {inner : List Zone} (proper : AllProper from to inner) (some : from < to) where
  -- and it has one: the rounds end
  pub star_exists : (diagonal : Zone) → (v : Value) × Star inner diagonal v
  star_exists = bound.star_exists proper some

  -- their number, the last included, is at most n + (to − from), n the number of inner zones
  pub rounds_bound : {r : ℕ} {F : List Zone} → Rounds inner inner (value F r) → r ≤ length inner + (to - from)
  rounds_bound = bound.rounds_bound proper some

  pub star_bound : {diagonal : Zone} {r : ℕ} {G : List Zone} → Star inner diagonal (value G r) → r ≤ length inner + (to - from)
  star_bound s = rounds_bound (star_rounds s).1

  -- so are the rounds begun, where a put would leave 129 zones
  pub star_begun : {diagonal : Zone} {v : Value} → Star inner diagonal v → begun v ≤ length inner + (to - from)
  star_begun = bound.star_begun proper some

  -- every stretch in the star's list is cut into at most that many consecutive pieces that each lie in the inner list, one of the diagonal
  -- into none
  pub star_pieces : {r : ℕ} {G : List Zone} → Star inner (diagonal from to) (value G r) → (x y : Time) → Lies G x y → (n : ℕ) × (n ≤ length inner + (to - from)) × Pieces (Lies inner) n x y
  star_pieces s x y l =
      let c = star_cut proper s x y (λ i. ((diagonal_members from to x y).0 i).1) l in
      (c.0, let h = c.1 in let b = star_bound s in omega arith, c.2)
