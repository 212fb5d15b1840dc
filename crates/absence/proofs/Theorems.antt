-- The theorems on the list of `~`: in it lie exactly the stretches of ticks from..to that do not lie in the operand's list, and it is well formed.
-- The page that the crates above cite.
use Rattle.std.specs.Prelude.{Some}
use mathlib.Core.Path.{◌≡◌, refl, sym, subst}
use mathlib.Core.Logic.Iff
use mathlib.Core.Logic.{◌↔◌, ◌⊎◌, inl, inr, ⊎_map, ⊎_elim}
use mathlib.Core.List.Memᴰ.{append_cases}
use mathlib.Core.List.Memᴰ.{cases_cons}
use mathlib.Core.List.Memᴰ.{eq_of_singleton}
use mathlib.Core.List.Memᴰ.{head}
use mathlib.Core.List.Memᴰ.{not-nil}
use mathlib.Core.List.Memᴰ.{tail}
use mathlib.Core.List.{List, [], ◌∷◌, Memᴰ}
use Prim.Native.Nat.{ℕ, ◌≤◌}
use native.Mathlib.Omega.{arith}
use Rattle.limit.specs.Time.{Time}
use Rattle.zone.specs.declared.Zone.{Zone}
use Rattle.zone.specs.Zone.{In, Proper, Stretch, everything}
use Rattle.zone.proofs.Laws.{everything_members, proper_everything}
use Rattle.parts.specs.Parts.{parts}
use Rattle.parts.proofs.Laws.{in?, parts_members, parts_proper}
use Rattle.list.specs.Insert.{Built, listed, overflow, then}
use Rattle.list.specs.Members.{Lies, AllProper}
use Rattle.list.proofs.Coverage.{Offered, clash}
use Rattle.list.proofs.Members.{lies, nothing_lies, lies_one, offered_append}
use Rattle.list.proofs.Theorems.{WellFormed, built_lies, built_well}
use Rattle.absence.specs.Absence.{parts_each, without, without_each, absent}

pub lies_cons : (z : Zone) (L : List Zone) (x y : Time) → Lies (z ∷ L) x y ↔ (In z x y ⊎ Lies L x y)
lies_cons z L x y = (
  λ l. ⊎_map (λ e. subst (λ (v : Zone). In v x y) e l.member) (λ m. lies m l.member) (cases_cons l.among),
  ⊎_elim (lies (head refl)) (λ l. lies (tail l.among) l.member),
)

-- whether a stretch lies in a list is decided
pub lies? : (L : List Zone) (x y : Time) → Dec (Lies L x y)
lies? [] x y = no nothing_lies
lies? (z ∷ L) x y = go (in? z x y) (lies? L x y)
  where
    go : Dec (In z x y) → Dec (Lies L x y) → Dec (Lies (z ∷ L) x y)
    go (yes i) l = yes ((lies_cons z L x y).1 (inl i))
    go (no n) (yes l) = yes ((lies_cons z L x y).1 (inr l))
    go (no n) (no k) = no (λ l. ⊎_elim n k ((lies_cons z L x y).0 l))

-- ---- one zone of the operand

module _ (w : Zone) where
  pub each_members : (L : List Zone) (x y : Time) → Offered (parts_each w L) x y ↔ (Lies L x y × ¬ In w x y)
  unfolding parts_each
  each_members [] x y = (λ o. absurd (not-nil o.1), λ h. absurd (nothing_lies h.0))
  each_members (z ∷ L) x y =
      let p = parts_members z w x y in
      let b = each_members L x y in
      let c = lies_cons z L x y in
      Iff.trans (offered_append (parts z w) (parts_each w L) x y) (
        ⊎_elim (λ o. let i = p.0 o in (c.1 (inl i.0), i.1)) (λ o. let i = b.0 o in (c.1 (inr i.0), i.1)),
        λ h. ⊎_map (λ i. p.1 (i, h.1)) (λ l. b.1 (l, h.1)) (c.0 h.0),
      )

  pub each_proper : {from to : ℕ} (L : List Zone) → AllProper from to L → (p : Zone) → Memᴰ (Some p) (parts_each w L) → Proper from to p
  unfolding parts_each
  each_proper [] h p m = absurd (not-nil m)
  each_proper (z ∷ L) h p m = ⊎_elim (parts_proper w (h z (head refl)) p) (each_proper L (λ v n. h v (tail n)) p) (append_cases (parts z w) m)

  module _ (L : List Zone) {M : List Zone} (e : without w L ≡ listed M) where
    without_lies : (x y : Time) → Lies M x y ↔ (Lies L x y × ¬ In w x y)
    unfolding without
    without_lies x y = Iff.trans (built_lies (parts_each w L) e x y) (each_members L x y)

    pub without_well : {from to : ℕ} → AllProper from to L → WellFormed from to M
    unfolding without
    without_well h = built_well (parts_each w L) e (each_proper L h)

-- ---- all of them

-- the list that was built, and what came of it
then_parts : (b : Built) (next : List Zone → Built) {M : List Zone} → then b next ≡ listed M → (K : List Zone) × (b ≡ listed K) × (next K ≡ listed M)
then_parts (listed K) next e = (K, refl, e)
then_parts overflow next e = clash (cc)

without_each_lies : (W L : List Zone) {M : List Zone} → without_each W L ≡ listed M → (x y : Time) → Lies M x y ↔ (Lies L x y × ¬ Lies W x y)
unfolding without_each
without_each_lies [] L {M} e x y = let q : L ≡ M = cc in (λ l. (subst (λ (K : List Zone). Lies K x y) (sym q) l, nothing_lies), λ h. subst (λ (K : List Zone). Lies K x y) q h.0)
without_each_lies (w ∷ W) L e x y =
    let t = then_parts (without w L) (without_each W) e in
    let a = without_lies w L t.1 x y in
    let c = lies_cons w W x y in
    Iff.trans (without_each_lies W t.0 t.2 x y) (
      λ h. let i = a.0 h.0 in (i.0, λ l. ⊎_elim i.1 h.1 (c.0 l)),
      λ h. (a.1 (h.0, λ i. h.1 (c.1 (inl i))), λ l. h.1 (c.1 (inr l))),
    )

without_each_well : {from to : ℕ} (W L : List Zone) {M : List Zone} → WellFormed from to L → without_each W L ≡ listed M → WellFormed from to M
unfolding without_each
without_each_well {from} {to} [] L {M} h e = let q : L ≡ M = cc in subst (WellFormed from to) q h
without_each_well (w ∷ W) L h e =
    let t = then_parts (without w L) (without_each W) e in
    without_each_well W t.0 (without_well w L t.1 h.proper) t.2

-- ==== The theorems

module _ (from to : ℕ) (W : List Zone) {M : List Zone} (e : absent from to W ≡ listed M) where
  -- `~`: a stretch inside from..to lies in its list exactly if it does not lie in the operand's
  pub absent_lies : (x y : Time) → Stretch from to x y → Lies M x y ↔ ¬ Lies W x y
  unfolding absent
  absent_lies x y s =
      let i = (lies_one (everything from to) x y).1 ((everything_members from to x y).1 s) in
      Iff.trans (without_each_lies W (everything from to ∷ []) e x y) (λ h. h.1, λ n. (i, n))

  -- its zones are tight and inside from..to, none lies inside another, and there are at most 128
  pub absent_well : from ≤ to → WellFormed from to M
  unfolding absent
  absent_well h =
      without_each_well W (everything from to ∷ [])
      (record {
        proper = λ z m. subst (Proper from to) (sym (eq_of_singleton m)) (proper_everything from to h);
        antichain = (λ y m. absurd (not-nil m), tt);
        short = omega arith;
      }) e
