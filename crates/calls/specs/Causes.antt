-- Which outcome a call has, of any list of causes: each call has its own, in its own order, and says when each of them holds.
use Rattle.std.specs.Prelude.{◌≡◌, ℕ}
use mathlib.Core.List.{List, ◌∷◌, ◌++◌, Memᴰ}
use Rattle.outcome.specs.declared.Finished.{Finished}
use Rattle.outcome.specs.Outcome.{Outcome, Ok}

-- "Each is given when its cause holds and no earlier one does": o's place in the list of causes
pub record First (causes : List Outcome) (Cause : Outcome → Type 0) (o : Outcome) : Type 0 where
  pub earlier : List Outcome
  pub later : List Outcome
  pub place : causes ≡ earlier ++ (o ∷ later)
  pub holds : Cause o
  pub none : (p : Outcome) → Memᴰ p earlier → ¬ Cause p

-- no cause holds
abbrev pub NoCause : List Outcome → (Outcome → Type 0) → Type 0
NoCause causes Cause = (p : Outcome) → Memᴰ p causes → ¬ Cause p

-- the first cause; "A drill is accepted where no cause holds", with the zones and the rounds that it finishes with
pub data CallAs (causes : List Outcome) (Cause : Outcome → Type 0) (Finishes : (zones rounds : ℕ) → Type 0) : Outcome → Type 0 where
  refused : {o : Outcome} → First causes Cause o → CallAs causes Cause Finishes o
  accepted : {f : Finished} → NoCause causes Cause → Finishes f.zones f.rounds → CallAs causes Cause Finishes (Ok f)
