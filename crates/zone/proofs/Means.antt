-- What the operations and the zones to begin with mean for members, in the form of the functions' contracts.
use Rattle.std.specs.Prelude.{Option}
use mathlib.Core.Path.{◌≡◌, sym, subst}
use mathlib.Core.Bool.{Bool}
use Prim.Native.Nat.{ℕ}
use Rattle.limit.specs.declared.Limit.{Limit}
use Rattle.limit.specs.Limit.{◌⊕◌, most, least, nought}
use Rattle.zone.specs.Zone.{Zone, tighten, meet, compose, contains, run, diagonal, everything, band, Tightens, Meets, Composes, Contains, IsRun, IsDiagonal, IsEverything, IsBand}
use Rattle.zone.proofs.Tighten.{tighten_is, tighten_tight, meet_is, meet_tight}
use Rattle.zone.proofs.Compose.{compose_is}
use Rattle.zone.proofs.Across.{compose_tight}
use Rattle.zone.proofs.Tight.{tight_is, tight_maybe, inclusion_is, contains-⊑}
use Rattle.zone.proofs.Begin.{run_members, run_closed, diagonal_members, diagonal_closed, everything_members, everything_closed, band_members, band_closed}

-- ---- the operations

pub tighten_means : (z : Zone) {r : Option Zone} → r ≡ tighten z → Tightens z r
tighten_means z e = subst (Tightens z) (sym e) (record { members = λ x y. tighten_is x y z; tight = λ h k. tight_maybe (tighten z) (tighten_tight z h k) })

pub meet_means : (z w : Zone) {r : Option Zone} → r ≡ meet z w → Meets z w r
meet_means z w e = subst (Meets z w) (sym e) (record { members = λ x y. meet_is x y z w; tight = λ h. tight_maybe (meet z w) (meet_tight w (tight_is.0 h)) })

pub compose_means : (z w : Zone) {r : Option Zone} → r ≡ compose z w → Composes z w r
compose_means z w e =
    subst (Composes z w) (sym e)
    (record { members = λ h k. compose_is (tight_is.0 h) (tight_is.0 k); tight = λ h k. tight_maybe (compose z w) (compose_tight (tight_is.0 h) (tight_is.0 k)) })

pub contains_means : (z w : Zone) {r : Bool} → r ≡ contains z w → Contains z w r
contains_means z w e =
    subst (Contains z w) (sym e)
    (record {
      members = λ h. (
        λ t. (inclusion_is z (tight_is.0 h)).1 ((contains-⊑ z w).0 t),
        λ f. (contains-⊑ z w).1 ((inclusion_is z (tight_is.0 h)).0 f),
      );
    })

-- ---- the zones to begin with

module _ (from to : ℕ) where
  pub run_means : {r : Zone} → r ≡ run from to → IsRun from to r
  run_means e = subst (IsRun from to) (sym e) (record { members = run_members from to; tight = λ h. tight_is.1 (run_closed from to h) })

  pub diagonal_means : {r : Zone} → r ≡ diagonal from to → IsDiagonal from to r
  diagonal_means e = subst (IsDiagonal from to) (sym e) (record { members = diagonal_members from to; tight = λ h. tight_is.1 (diagonal_closed from to h) })

  pub everything_is : {r : Zone} → r.start ≡ most to → r.nstart ≡ least from → r.end ≡ most to → r.nend ≡ least from → r.length ≡ most to ⊕ least from → r.nlength ≡ nought → r ≡ everything from to
  unfolding everything ◌⊕◌
  everything_is s ns e ne l nl = λ i. record { start = s i; nstart = ns i; end = e i; nend = ne i; length = l i; nlength = nl i }

  pub everything_means : {r : Zone} → r ≡ everything from to → IsEverything from to r
  everything_means e = subst (IsEverything from to) (sym e) (record { members = everything_members from to; tight = λ h. tight_is.1 (everything_closed from to h) })

  pub band_means : (longest shortest : Limit) {r : Option Zone} → r ≡ band from to longest shortest → IsBand from to longest shortest r
  band_means longest shortest e =
      subst (IsBand from to longest shortest) (sym e)
      (record { members = band_members from to longest shortest; tight = tight_maybe (band from to longest shortest) (band_closed from to longest shortest) })
