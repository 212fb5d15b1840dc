-- Counting in parts.
use mathlib.Core.List.Memᴰ.{head}
use mathlib.Core.List.Memᴰ.{tail}
use mathlib.Core.List.{List, [], ◌∷◌, ◌++◌, Memᴰ}
use mathlib.Core.Path.{◌≡◌, refl, subst}
use Prim.Native.Nat.{ℕ, ◌+◌, ◌≤◌}
use native.Mathlib.Omega.{arith}
use lib.ListN.{length}
use Rattle.pairs.specs.Counted.{Counted, none, with, without}

module _ {A : Type 0} {P : A → Type 0} where
  same : {xs : List A} {m n : ℕ} → m ≡ n → Counted P xs m → Counted P xs n
  same {xs} e c = subst (Counted P xs) e c

  pub counted_append : {xs ys : List A} {m n : ℕ} → Counted P xs m → Counted P ys n → Counted P (xs ++ ys) (m + n)
  counted_append none d = same (omega arith) d
  counted_append (with p c) d = same (omega arith) (with p (counted_append c d))
  counted_append (without p c) d = without p (counted_append c d)

  pub counted_most : {xs : List A} {n : ℕ} → Counted P xs n → n ≤ length xs
  counted_most none = omega arith
  counted_most (with p c) = omega (arith, counted_most c)
  counted_most (without p c) = omega (arith, counted_most c)

  pub counted_none : (xs : List A) → ((x : A) → Memᴰ x xs → ¬ P x) → Counted P xs 0
  counted_none [] f = none
  counted_none (x ∷ xs) f = without (f x (head refl)) (counted_none xs (λ y m. f y (tail m)))
