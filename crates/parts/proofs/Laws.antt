-- The laws of parts: a stretch of z lies in exactly one part or in w; each part is tight and inside the same ticks.
use Rattle.std.specs.Prelude.{Option, Some}
use mathlib.Core.Path.{◌≡◌, refl, sym, subst}
use mathlib.Core.Logic.{◌↔◌, ◌⊎◌, inl, inr, ⊎_map, ⊎_elim}
use mathlib.Core.List.Memᴰ.{cases_cons}
use mathlib.Core.List.Memᴰ.{head}
use mathlib.Core.List.Memᴰ.{not-nil}
use mathlib.Core.List.Memᴰ.{tail}
use mathlib.Core.List.{List, [], ◌∷◌, Memᴰ}
use Prim.Native.Nat.{ℕ}
use Rattle.limit.specs.Time.{Time, origin}
use Rattle.limit.specs.declared.Limit.{Limit}
use Rattle.limit.specs.Limit.{◌≤ᴸ◌, nought, broken}
use Rattle.limit.proofs.Order as order
use Rattle.limit.proofs.Breaking.{within?}
use Rattle.zone.specs.declared.Zone.{Zone}
use Rattle.zone.specs.Zone.{In, InMaybe, Inside, Proper, Side, limit, opposite, Keeps, upper, lower, TightMaybe}
use Rattle.zone.proofs.Laws.{tighten_members, tighten_tight, tight_closed}
use Rattle.parts.specs.Parts.{sides, also, keeping, part, parts_on, parts}
use Rattle.parts.specs.Shares.{InSome, ShareNone}
use Rattle.parts.proofs.Limits.{also_members, also_lowers, part_members}

-- the stretch keeps to w's limits on these sides
abbrev KeepsAll : Zone → List Side → Time → Time → Type 0
KeepsAll w [] x y = Unit {0}
KeepsAll w (k ∷ ks) x y = Keeps k (limit w k) x y × KeepsAll w ks x y

all_is : (w : Zone) (x y : Time) → KeepsAll w sides x y ↔ In w x y
all_is w x y = (
  λ h. record { start = h.0; nstart = h.1.0; end = h.1.1.0; nend = h.1.1.1.0; length = h.1.1.1.1.0; nlength = h.1.1.1.1.1.0 },
  λ i. (i.start, (i.nstart, (i.end, (i.nend, (i.length, (i.nlength, tt)))))),
)

module _ (w : Zone) where
  split : (ks : List Side) (z : Zone) (x y : Time) → In z x y → InSome (parts_on ks z w) x y ⊎ KeepsAll w ks x y
  unfolding parts_on
  split [] z x y i = inr tt
  split (k ∷ ks) z x y i = go (λ j. split ks (keeping z w k) x y j) (within? (limit w k) (upper origin k x y) (lower origin k x y))
    where
      go : (In (keeping z w k) x y → InSome (parts_on ks (keeping z w k) w) x y ⊎ KeepsAll w ks x y)
          → Dec (Keeps k (limit w k) x y) → InSome (parts_on (k ∷ ks) z w) x y ⊎ KeepsAll w (k ∷ ks) x y
      go below (yes p) = ⊎_map (λ s. (s.0, tail s.1, s.2)) (λ a. (p, a)) (below ((also_members z k (limit w k) x y).1 (i, p)))
      go below (no n) = inl (_, head refl, (part_members z w k x y).1 (i, n))

  outside : (ks : List Side) (z : Zone) (x y : Time) → InSome (parts_on ks z w) x y → In z x y × ¬ KeepsAll w ks x y
  unfolding parts_on
  outside [] z x y s = absurd (not-nil s.1)
  outside (k ∷ ks) z x y s =
      ⊎_elim (λ e. let p = (part_members z w k x y).0 (subst (λ (r : Option Zone). InMaybe r x y) e s.2) in (p.0, λ a. p.1 a.0))
      (λ m. let p = outside ks (keeping z w k) x y (s.0, m, s.2) in (((also_members z k (limit w k) x y).0 p.0).0, λ a. p.1 a.1))
      (cases_cons s.1)

  share_none : (ks : List Side) (z : Zone) → ShareNone (parts_on ks z w)
  unfolding parts_on
  share_none [] z = tt
  share_none (k ∷ ks) z = (
    λ x y i s. ((part_members z w k x y).0 i).1 ((also_members z k (limit w k) x y).0 (outside ks (keeping z w k) x y s).0).1,
    share_none ks (keeping z w k),
  )

-- what tightening asks of a zone, and where it lies
record Ground (from to : ℕ) (z : Zone) : Type 0 where
  after_0 : z.nstart ≤ᴸ nought
  onward : z.nlength ≤ᴸ nought
  inside : Inside from to z

module _ {from to : ℕ} where
  also_ground : (z : Zone) (k : Side) (l : Limit) → Ground from to z → Ground from to (also z k l)
  also_ground z k l g =
      let h = also_lowers z k l in
      record {
        after_0 = order.≤_trans h.0 g.after_0;
        onward = order.≤_trans h.1 g.onward;
        inside = record { inside = λ x y i. g.inside.inside x y ((also_members z k l x y).0 i).0 };
      }

  part_proper : (z w : Zone) (k : Side) {p : Zone} → Ground from to z → Some p ≡ part z w k → Proper from to p
  unfolding part
  part_proper z w k g e =
      let z' = also z (opposite k) (broken (limit w k)) in
      let h = also_ground z (opposite k) (broken (limit w k)) g in
      record {
        tight = subst TightMaybe (sym e) (tighten_tight z' h.after_0 h.onward);
        inside = record { inside = λ x y i. h.inside.inside x y ((tighten_members z' x y).0 (subst (λ (r : Option Zone). InMaybe r x y) e i)) };
      }

  on_proper : (w : Zone) (ks : List Side) {z : Zone} → Ground from to z → (p : Zone) → Memᴰ (Some p) (parts_on ks z w) → Proper from to p
  unfolding parts_on
  on_proper w [] g p m = absurd (not-nil m)
  on_proper w (k ∷ ks) {z} g p m = ⊎_elim (part_proper z w k g) (on_proper w ks (also_ground z k (limit w k) g) p) (cases_cons m)

-- ==== The laws

-- whether a stretch lies in a zone is decided
pub in? : (z : Zone) (x y : Time) → Dec (In z x y)
in? z x y = go (all? sides)
  where
    all? : (ks : List Side) → Dec (KeepsAll z ks x y)
    all? [] = yes tt
    all? (k ∷ ks) = both (within? (limit z k) (upper origin k x y) (lower origin k x y)) (all? ks)
      where
        both : Dec (Keeps k (limit z k) x y) → Dec (KeepsAll z ks x y) → Dec (KeepsAll z (k ∷ ks) x y)
        both (yes p) (yes q) = yes (p, q)
        both (no n) q = no (λ h. n h.0)
        both (yes p) (no n) = no (λ h. n h.1)

    go : Dec (KeepsAll z sides x y) → Dec (In z x y)
    go (yes h) = yes ((all_is z x y).0 h)
    go (no n) = no (λ i. n ((all_is z x y).1 i))

module _ (z w : Zone) where
  -- a stretch of z lies in one of the parts or in w ..
  pub parts_split : (x y : Time) → In z x y → InSome (parts z w) x y ⊎ In w x y
  parts_split x y i = ⊎_map (λ s. s) (all_is w x y).0 (split w sides z x y i)

  -- .. in one part alone ..
  pub parts_share_none : ShareNone (parts z w)
  parts_share_none = share_none w sides z

  -- .. and in the parts lie exactly the stretches of z that do not lie in w
  pub parts_members : (x y : Time) → InSome (parts z w) x y ↔ (In z x y × ¬ In w x y)
  parts_members x y = (
    λ s. let p = outside w sides z x y s in (p.0, λ i. p.1 ((all_is w x y).1 i)),
    λ h. ⊎_elim (λ s. s) (λ i. absurd (h.1 i)) (parts_split x y h.0),
  )

-- each part is tight and inside the same ticks
pub parts_proper : {from to : ℕ} {z : Zone} (w : Zone) → Proper from to z → (p : Zone) → Memᴰ (Some p) (parts z w) → Proper from to p
parts_proper w h =
    let c = tight_closed.0 h.tight in
    on_proper w sides (record { after_0 = c.after_0; onward = c.onward; inside = h.inside })
