-- A result whose error was exchanged for another.
use mathlib.Core.Path.{◌≡◌, refl}
use Rattle.std.specs.Prelude.{Result, Ok, Err}
use Rattle.std.specs.Result.{MatchResult, IsErrAnd}

module _ {T E D : Type 0} (Q : E → D → Type 0) where
  -- Where there is an error in the end, there was one before, and it gave that.
  pub error_before : (r : Result T E) {d : D} → MatchResult r (λ x. ◌≡◌ {A = Result T D} (Err d) (Ok x)) (λ e. IsErrAnd {T = T} (Err d) (Q e)) → (e : E) × (r ≡ Err e) × Q e d
  error_before (Ok x) h = cc
  error_before (Err e) h = (e, refl, h)

  -- A value stays as it is.
  pub value_before : (r : Result T E) {x : T} → MatchResult r (λ y. ◌≡◌ {A = Result T D} (Ok x) (Ok y)) (λ e. IsErrAnd {E = D} (Ok x) (Q e)) → r ≡ Ok x
  value_before (Ok y) h = cc
  value_before (Err e) h = absurd h
