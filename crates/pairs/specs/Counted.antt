-- How many of a list have a property.
use Rattle.std.specs.Prelude.{List, [], ◌∷◌, ℕ, suc}

pub data Counted {A : Type 0} (P : A → Type 0) : List A → ℕ → Type 0 where
  none : Counted P [] 0
  with : {x : A} {xs : List A} {n : ℕ} → P x → Counted P xs n → Counted P (x ∷ xs) (suc n)
  without : {x : A} {xs : List A} {n : ℕ} → ¬ P x → Counted P xs n → Counted P (x ∷ xs) n
