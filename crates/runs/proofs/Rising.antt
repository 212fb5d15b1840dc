-- Lists in rising time, of anything that has a time: a list is known by its members.
use mathlib.Core.Path.{◌≡◌, refl, sym, ap, subst, ◌∙◌}
use mathlib.Core.List.Memᴰ
use mathlib.Core.List.{List, [], ◌∷◌, ◌++◌, append-nil, Memᴰ}
use mathlib.Core.Logic.{⊎_elim}
use Prim.Native.Nat.{ℕ, ◌<◌}
use native.Mathlib.Omega.{arith}
use lib.ListN.{length, length-append}
use Rattle.runs.specs.Runs.{Rising, none, next}

-- a later one goes last
pub rising_last : {A : Type 0} {time : A → ℕ} (xs : List A) (x : A) → ((y : A) → Memᴰ y xs → time y < time x) → Rising time xs → Rising time (xs ++ (x ∷ []))
rising_last [] x h r = next (λ y m. absurd (Memᴰ.not-nil m)) none
rising_last (z ∷ xs) x h (next a r) =
    next (λ y m. ⊎_elim (a y) (λ q. let e : y ≡ x = Memᴰ.eq_of_singleton q in rw e (h z (Memᴰ.head refl))) (Memᴰ.append_cases xs m))
    (rising_last xs x (λ y m. h y (Memᴰ.tail m)) r)

-- xs are the first of ys, where all of them are among ys and nothing of ys comes between them
pub first_of : {A : Type 0} {time : A → ℕ} (xs ys : List A) → Rising time xs → Rising time ys → ((x : A) → Memᴰ x xs → Memᴰ x ys)
    → ((y x : A) → Memᴰ y ys → Memᴰ x xs → time y < time x → Memᴰ y xs) → (zs : List A) × (ys ≡ xs ++ zs)
first_of [] ys r q f g = (ys, refl)
first_of (x ∷ xs) [] r q f g = absurd (Memᴰ.not-nil (f x (Memᴰ.head refl)))
first_of {A} {time} (x ∷ xs) (y ∷ ys) (next a r) (next b q) f g =
    let rest = first_of xs ys r q
    (λ z m. ⊎_elim (λ (e : z ≡ y). absurd (off (e ∙ sym heads) (a z m))) (λ w. w) (Memᴰ.cases_cons (f z (Memᴰ.tail m))))
    (λ z w m n h. ⊎_elim (λ (e : z ≡ x). absurd (off (e ∙ heads) (b z m))) (λ w. w) (Memᴰ.cases_cons (g z w (Memᴰ.tail m) (Memᴰ.tail n) h))) in
    (rest.0, λ i. sym heads i ∷ rest.1 i)
  where
    heads : x ≡ y
    heads =
        ⊎_elim (λ e. e)
        (λ m. ⊎_elim (λ e. sym e) (λ n. absurd (crossed (a y n) (b x m))) (Memᴰ.cases_cons (g y x (Memᴰ.head refl) (Memᴰ.head refl) (b x m))))
        (Memᴰ.cases_cons (f x (Memᴰ.head refl)))
      where
        crossed : time x < time y → time y < time x → ⊥
        crossed h k = omega arith

    off : {v w : A} → w ≡ v → time v < time w → ⊥
    off {v} e h = let k : time v < time v = subst (λ (u : A). time v < time u) e h in omega arith

-- two lists with the same members are one: each is the first part of the other
pub same_members : {A : Type 0} {time : A → ℕ} (xs ys : List A) → Rising time xs → Rising time ys → ((x : A) → Memᴰ x xs → Memᴰ x ys)
    → ((x : A) → Memᴰ x ys → Memᴰ x xs) → xs ≡ ys
same_members {A} xs ys r q f g = go (first_of xs ys r q f (λ y _ m _ _. g y m)) (first_of ys xs q r g (λ x _ m _ _. f x m))
  where
    go : (zs : List A) × (ys ≡ xs ++ zs) → (ws : List A) × (xs ≡ ys ++ ws) → xs ≡ ys
    go ([], e) b = sym (e ∙ append-nil xs)
    go (z ∷ zs, e) (ws, d) =
        let m = ap length e ∙ length-append xs (z ∷ zs) in
        let n = ap length d ∙ length-append ys ws in
        absurd (omega arith)
