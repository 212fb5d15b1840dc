-- What a text begins with, and the text from a place on.
use Rattle.std.proofs.Common.{Option, Some, None, Bor, MatchOption}
use Rattle.std.specs.Option.{option_copied}
use Rattle.std.specs.List.{HoldsAt}
use Rattle.std.proofs.lemmas.Option.{same_Some}
use mathlib.Core.Path.{◌≡◌, refl, ap, ◌∙◌}
use mathlib.Core.Bool.{Bool, true, false}
use mathlib.Core.List.{List, [], ◌∷◌}
use mathlib.Core.Logic.{◌⊎◌, inl, inr}
use Prim.Native.Nat.{ℕ, ◌+◌, ◌-◌, ◌<◌, ◌≤◌}
use native.Mathlib.Omega.{arith}
use native.Mathlib.Numerals.{add-one}
use lib.Dec.{eqb}
use lib.ListN.{length, get_or, drop, drop_of_length-le}
use lib.Seq.{drop-cons}
use borrow.Author.Tests.{eqb-true, lt-ltb, le-ltb}
use Rattle.tokens.specs.Tokens.{Got, no, yes, branch, bind, starts, rest, ranged, Seen}
use Rattle.tokens.specs.Readers.{Past, Offset-at}

pub yes_text : {A : Type 0} {x y : A} {r s : List ℕ} → yes x r ≡ yes y s → r ≡ s
yes_text e = cc

pub yes_value : {A : Type 0} {x y : A} {r s : List ℕ} → yes x r ≡ yes y s → x ≡ y
yes_value e = cc

-- a reading by steps that comes to something: its first step does
pub bind_yes : {A B : Type 0} (g : Got A) (k : A → List ℕ → Got B) {y : B} {r : List ℕ}
    → bind g k ≡ yes y r → (x : A) × (s : List ℕ) × (g ≡ yes x s) × (k x s ≡ yes y r)
unfolding bind
bind_yes no k e = cc
bind_yes (yes x s) k e = (x, s, refl, e)

pub branch_split : {A : Type 0} (b : Bool) (a c : Unit {0} → Got A) {g : Got A} → branch b a c ≡ g → ((b ≡ true) × (a tt ≡ g)) ⊎ ((b ≡ false) × (c tt ≡ g))
unfolding branch
branch_split true a c e = inl (refl, e)
branch_split false a c e = inr (refl, e)

pub head : (text : List ℕ) (at : ℕ) → at < length text → drop at text ≡ get_or text at 0 ∷ drop (at + 1) text
head text at h = rw add-one (drop-cons text at 0 h)

pub starts_is : (c : ℕ) (s : List ℕ) → starts c s ≡ true → s ≡ c ∷ rest s
unfolding starts rest
starts_is c [] e = cc
starts_is c (b ∷ s) e = ap (λ (x : ℕ). x ∷ s) (eqb-true b c e)

pub starts_shorter : (c : ℕ) (s : List ℕ) → starts c s ≡ true → length (rest s) < length s
starts_shorter c s e = omega (arith, ap length (starts_is c s e))

-- what `text.get(at).copied()` tells: the byte there, or that the text ends before
abbrev Looked : List ℕ → ℕ → Option (Bor ℕ) → Type 0
Looked text at o = MatchOption o (length text ≤ at) (λ x. (at < length text) × HoldsAt (λ y. x.now ≡ y) text at)

pub byte_there : (text : List ℕ) (at : ℕ) (o : Option (Bor ℕ)) {b : ℕ} → Looked text at o → Some b ≡ option_copied o → (at < length text) × (b ≡ get_or text at 0)
byte_there text at None h e = cc
byte_there text at (Some x) h e = (h.0, same_Some _ _ e ∙ h.1 0)

pub no_byte : (text : List ℕ) (at : ℕ) (o : Option (Bor ℕ)) → Looked text at o → None ≡ option_copied o → length text ≤ at
no_byte text at None h e = h
no_byte text at (Some x) h e = cc

-- at a place of the text
module _ (text : List ℕ) (at : ℕ) where
  pub rest_drop : at < length text → rest (drop at text) ≡ drop (at + 1) text
  unfolding rest
  rest_drop h = rw (head text at h)

  -- the text behind a byte that stands there
  pub rest_past : {c a : ℕ} → Past c text at a → rest (drop at text) ≡ drop a text
  rest_past p = rw p.next (rest_drop p.inside)

  pub seen_inside : (c : ℕ) → at < length text → Seen c text at (eqb (get_or text at 0) c)
  unfolding starts
  seen_inside c h = record { is = rw (head text at h); inside = λ _. h }

  pub seen_outside : (c : ℕ) → length text ≤ at → Seen c text at false
  unfolding starts
  seen_outside c h = record { is = rw (drop_of_length-le text h); inside = λ e. cc }

  pub offset_end : (first count : ℕ) → length text ≤ at → ranged first count (drop at text) ≡ no
  unfolding ranged
  offset_end first count h = rw (drop_of_length-le text h)

  module _ (first count : ℕ) (inside : at < length text) where
    pub offset_low : get_or text at 0 < first → ranged first count (drop at text) ≡ no
    unfolding ranged branch
    offset_low h = rw (head text at inside, lt-ltb _ _ h)

    -- k is the place of the byte from `first` on
    module _ {k : ℕ} (above : first ≤ get_or text at 0) (is : k ≡ get_or text at 0 - first) where
      pub offset_high : count ≤ k → ranged first count (drop at text) ≡ no
      unfolding ranged branch
      offset_high h = rw (head text at inside, le-ltb _ _ above, ← is, le-ltb _ _ h)

      pub offset_by : k < count → Offset-at first count text at k
      unfolding ranged branch
      offset_by h = record { inside = inside; small = h; read = rw (head text at inside, le-ltb _ _ above, ← is, lt-ltb _ _ h) }
