-- The first cause of any list of causes: a call has no two outcomes, and its number is exactly that of its first cause. Laws for every call.
use mathlib.Core.Path.{◌≡◌, refl, sym, subst, ap, ◌∙◌}
use mathlib.Core.Logic.{◌↔◌, ◌⊎◌, inl, inr, ⊎_map, ⊎_elim}
use mathlib.Core.List.Memᴰ
use mathlib.Core.List.Memᴰ.{append_right}
use mathlib.Core.List.Memᴰ.{not-nil}
use mathlib.Core.List.{List, [], ◌∷◌, ◌++◌, Memᴰ}
use Prim.Native.Nat.{ℕ, ◌<◌}
use native.Mathlib.Omega.{arith}
use Rattle.calls.specs.Causes.{First, NoCause, CallAs, CallAs.refused, CallAs.accepted}
use Rattle.calls.specs.Outcome.{Outcome, returned}
use Rattle.outcome.proofs.Listing.{listing}
use Rattle.outcome.proofs.Numbers.{zero_finished, same_number}

-- ---- places in a list

-- two places are the same, or one lies before the other
order : {A : Type 0} {a b : A} (us cs vs ds : List A) → us ++ (a ∷ cs) ≡ vs ++ (b ∷ ds) → (a ≡ b) ⊎ (Memᴰ a vs ⊎ Memᴰ b us)
order [] cs [] ds e = inl (cc)
order {a = a} [] cs (v ∷ vs) ds e = let q : a ≡ v = cc in inr (inl (Memᴰ.head q))
order {b = b} (u ∷ us) cs [] ds e = let q : b ≡ u = cc in inr (inr (Memᴰ.head q))
order {a = a} {b = b} (u ∷ us) cs (v ∷ vs) ds e =
    let t : us ++ (a ∷ cs) ≡ vs ++ (b ∷ ds) = cc in
    ⊎_map (λ q. q) (⊎_map Memᴰ.tail Memᴰ.tail) (order us cs vs ds t)

-- ---- causes that do not hold

-- none of the causes of a list holds, one by one
infixr 30 ◌also◌
pub data NoneOf (Cause : Outcome → Type 0) : List Outcome → Type 0 where
  none : NoneOf Cause []
  ◌also◌ : {o : Outcome} {os : List Outcome} → ¬ Cause o → NoneOf Cause os → NoneOf Cause (o ∷ os)

module _ {Cause : Outcome → Type 0} where
  pub none_of : {os : List Outcome} → NoneOf Cause os → NoCause os Cause
  none_of none p m = absurd (not-nil m)
  none_of (n also ns) p (Memᴰ.head e) = λ c. n (subst Cause e c)
  none_of (n also ns) p (Memᴰ.tail m) = none_of ns p m

  pub none_append : {os ps : List Outcome} → NoneOf Cause os → NoneOf Cause ps → NoneOf Cause (os ++ ps)
  none_append none m = m
  none_append (n also ns) m = n also none_append ns m

-- ---- two calls whose causes begin alike

-- of two calls: each of these causes holds of the one where it holds of the other
pub data Alike (Cause Other : Outcome → Type 0) : List Outcome → Type 0 where
  nothing : Alike Cause Other []
  both : {o : Outcome} {os : List Outcome} → (Cause o → Other o) → (Other o → Cause o) → Alike Cause Other os → Alike Cause Other (o ∷ os)

-- where none of these holds of the one, none holds of the other
pub none_alike : {Cause Other : Outcome → Type 0} {A : List Outcome} → Alike Cause Other A → NoCause A Cause → NoneOf Other A
none_alike nothing n = none
none_alike (both {o = o} to back rest) n = (λ h. n o (Memᴰ.head refl) (back h)) also none_alike rest (λ p m. n p (Memᴰ.tail m))

module _ (Cause Other : Outcome → Type 0) where
  -- the first cause of the one is among these, and then it is the other's too; or none of these holds of the other, and it is among the rest
  abbrev pub Split : (A B : List Outcome) → Outcome → Type 0
  Split A B o = ((C : List Outcome) → First (A ++ C) Other o) ⊎ (NoneOf Other A × First B Cause o)

  pub first_split : {A B : List Outcome} {o : Outcome} → Alike Cause Other A → First (A ++ B) Cause o → Split A B o
  first_split nothing f = inr (none, f)
  first_split {B = B} {o = o} (both {o = a} {os = A} to back rest) f = go (first_split rest) f.earlier f.place f.none
    where
      go : (First (A ++ B) Cause o → Split A B o) → (us : List Outcome) → (a ∷ (A ++ B)) ≡ us ++ (o ∷ f.later) → ((p : Outcome) → Memᴰ p us → ¬ Cause p) → Split (a ∷ A) B o
      go below [] e n =
          let q : a ≡ o = cc in
          let h : Other o = subst Other q (to (subst Cause (sym q) f.holds)) in
          inl (λ C. record { earlier = []; later = A ++ C; place = ap (λ (p : Outcome). p ∷ (A ++ C)) q; holds = h; none = λ p m. absurd (not-nil m) })
      go below (u ∷ us) e n =
          let q : a ≡ u = cc in
          let t : A ++ B ≡ us ++ (o ∷ f.later) = cc in
          let out : ¬ Other a = λ h. n u (Memᴰ.head refl) (subst Cause q (back h)) in
          ⊎_elim
          (λ g. inl (λ C. let k = g C in record {
            earlier = a ∷ k.earlier;
            later = k.later;
            place = ap (λ (l : List Outcome). a ∷ l) k.place;
            holds = k.holds;
            none = λ p m. ⊎_elim (λ i h. out (subst Other i h)) (λ l. k.none p l) (Memᴰ.cases_cons m);
          }))
          (λ g. inr (out also g.0, g.1))
          (below (record { earlier = us; later = f.later; place = t; holds = f.holds; none = λ p m. n p (Memᴰ.tail m) }))

module _ {causes : List Outcome} {Cause : Outcome → Type 0} where
  -- ---- one outcome

  pub not_refused : {o : Outcome} → NoCause causes Cause → ¬ First causes Cause o
  not_refused {o} n f = n o (subst (Memᴰ o) (sym f.place) (append_right f.earlier (Memᴰ.head refl))) f.holds

  -- There is one first cause.
  pub first_unique : {o p : Outcome} → First causes Cause o → First causes Cause p → o ≡ p
  first_unique {o} {p} f g =
      ⊎_elim (λ e. e) (⊎_elim (λ m. absurd (g.none o m f.holds)) (λ m. absurd (f.none p m g.holds)))
      (order f.earlier f.later g.earlier g.later (sym f.place ∙ g.place))

  module _ {Finishes : (zones rounds : ℕ) → Type 0} where
    -- A cause that holds, where none of those before it does, is the call's outcome.
    pub refused_at : (earlier later : List Outcome) (o : Outcome) → causes ≡ earlier ++ (o ∷ later) → NoneOf Cause earlier → Cause o
        → CallAs causes Cause Finishes o
    refused_at earlier later o e n c = refused (record { earlier = earlier; later = later; place = e; holds = c; none = none_of n })

    -- A call has no two outcomes, where there is one way to finish.
    pub call_unique : ((z r y s : ℕ) → Finishes z r → Finishes y s → listing z r ≡ listing y s)
        → {o p : Outcome} → CallAs causes Cause Finishes o → CallAs causes Cause Finishes p → o ≡ p
    call_unique once (refused f) (refused g) = first_unique f g
    call_unique once (refused f) (accepted n d) = absurd (not_refused n f)
    call_unique once (accepted n d) (refused g) = absurd (not_refused n g)
    call_unique once (accepted n d) (accepted m e) = once _ _ _ _ d e

    -- The number returned is that of a refusal exactly where it is the first cause ..
    pub number_first : {o : Outcome} → CallAs causes Cause Finishes o
        → (p : Outcome) → 0 < (returned p).number → ((returned o).number ≡ (returned p).number) ↔ First causes Cause p
    number_first (refused {o} f) p h = (λ e. subst (First causes Cause) (same_number o p h e) f, λ g. ap (λ (q : Outcome). (returned q).number) (first_unique f g))
    number_first (accepted n d) p h = (λ e. absurd (omega arith), λ g. absurd (not_refused n g))

    -- .. and 0 exactly where no cause holds; a finished list is no cause.
    pub number_none : ((zones rounds : ℕ) → ¬ Cause (listing zones rounds)) → {o : Outcome} → CallAs causes Cause Finishes o
        → ((returned o).number ≡ 0) ↔ NoCause causes Cause
    number_none never (refused {o} f) = (λ e. absurd (never _ _ (subst Cause (zero_finished o e) f.holds)), λ n. absurd (not_refused n f))
    number_none never (accepted n d) = (λ _. n, λ _. refl)
