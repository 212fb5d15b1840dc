-- The store with a byte more: what each place then holds.
use mathlib.Core.Path.{◌≡◌, refl, sym, ◌∙◌}
use mathlib.Core.List.{List, [], ◌∷◌, ◌++◌}
use Prim.Native.Nat.{ℕ, ◌+◌, ◌*◌, ◌≤◌, ◌<◌, min}
use native.Mathlib.Decide.{dec_lt}
use native.Mathlib.Omega.{arith}
use borrow.Author.Tests.{lt-ltb, le-ltb}
use lib.ListN.{length, get_or, set, drop, length-append, get_or-append}
use lib.Seq.{drop-set-lt, get_or-set_same, get_or-set_other, get_or-append_seam}
use Rattle.lines.specs.Lines.{most_lines}
use Rattle.lines.specs.Taken.{place_bytes, store_bytes, Held}
use Rattle.lines.specs.Steps.{kept}

-- byte i of line k is b
module _ (store : List ℕ) (k i b : ℕ) where
  pub kept_in : k < most_lines → i < place_bytes → kept store k i b ≡ set store (k * place_bytes + i) b
  unfolding kept
  kept_in h room = rw (lt-ltb _ _ h, lt-ltb _ _ room)

  pub kept_full : k < most_lines → place_bytes ≤ i → kept store k i b ≡ store
  unfolding kept
  kept_full h full = rw (lt-ltb _ _ h, le-ltb _ _ full)

  pub kept_past : most_lines ≤ k → kept store k i b ≡ store
  unfolding kept
  kept_past h = rw (le-ltb _ _ h)

  -- what holds of the store with the byte, and of the store as it was
  kept_either : (P : List ℕ → Type 0) → (k < most_lines → i < place_bytes → P (set store (k * place_bytes + i) b)) → P store → P (kept store k i b)
  kept_either P put left = elim (dec_lt k most_lines) [
    | yes h ↦ (elim (dec_lt i place_bytes) [
      | yes room ↦ rw (kept_in h room) (put h room)
      | no full ↦ rw (kept_full h (omega arith)) left
    ])
    | no past ↦ rw (kept_past (omega arith)) left
  ]

  -- the bytes past the eight places are as they were ..
  pub kept_beyond : drop store_bytes (kept store k i b) ≡ drop store_bytes store
  kept_beyond = kept_either (λ s. drop store_bytes s ≡ drop store_bytes store) (λ h room. drop-set-lt store_bytes store _ b (omega arith)) refl

  -- .. and so is each other byte of a place
  kept_other : (n j : ℕ) → j < place_bytes → (n ≡ k → ¬ (j ≡ i)) → get_or (kept store k i b) (n * place_bytes + j) 0 ≡ get_or store (n * place_bytes + j) 0
  kept_other n j small other =
      kept_either (λ s. get_or s (n * place_bytes + j) 0 ≡ get_or store (n * place_bytes + j) 0) (λ h room. get_or-set_other store _ _ b 0 (λ e. other (omega arith) (omega arith))) refl

-- a place holds the empty line whatever its bytes are
pub held_none : (store : List ℕ) (k : ℕ) → Held store k []
held_none store k = record { at = λ i small within. absurd (omega arith) }

module _ {store line : List ℕ} {k : ℕ} (h : Held store k line) where
  -- a byte of another line changes nothing ..
  pub held_other : (n i b : ℕ) → ¬ (k ≡ n) → Held (kept store n i b) k line
  held_other n i b other = record { at = λ j small within. kept_other store n i b k j small (λ e. absurd (other e)) ∙ h.at j small within }

  -- .. and the next byte of its own goes behind those that are held
  pub held_more : {i : ℕ} (b : ℕ) → store_bytes ≤ length store → k < most_lines → i ≡ min place_bytes (length line) → Held (kept store k i b) k (line ++ (b ∷ []))
  held_more {i} b size small-k e = record { at = at }
    where
      at : (j : ℕ) → j < place_bytes → j < length (line ++ (b ∷ [])) → get_or (kept store k i b) (k * place_bytes + j) 0 ≡ get_or (line ++ (b ∷ [])) j 0
      at j small within = elim (dec_lt j (length line)) [
        | yes before ↦ kept_other store k i b k j small (λ _ f. omega arith) ∙ h.at j small before ∙ sym (get_or-append line (b ∷ []) 0 j before)
        | no past ↦ (
            let f : j ≡ length line = omega (arith, length-append line (b ∷ [])) in
            let g : i ≡ length line = omega arith in
            rw (kept_in store k i b small-k (omega arith), f, g, get_or-append_seam line b [] 0) (get_or-set_same store _ b 0 (omega arith)))
      ]
