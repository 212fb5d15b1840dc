-- Lists of zones of any number, for each operator but `*`: what lies in them, and that their zones are proper.
use Rattle.std.specs.Prelude.{Option, Some, None}
use mathlib.Core.Path.{◌≡◌, sym, ap, subst}
use mathlib.Core.Logic.Iff
use mathlib.Core.Logic.{◌↔◌, ◌⊎◌, inl, inr, ⊎_map, ⊎_elim}
use mathlib.Core.List.Memᴰ
use mathlib.Core.List.Memᴰ.{append_cases}
use mathlib.Core.List.Memᴰ.{append_left}
use mathlib.Core.List.Memᴰ.{append_right}
use mathlib.Core.List.Memᴰ.{cases_cons}
use mathlib.Core.List.Memᴰ.{eq_of_singleton}
use mathlib.Core.List.Memᴰ.{head}
use mathlib.Core.List.Memᴰ.{not-nil}
use mathlib.Core.List.Memᴰ.{tail}
use mathlib.Core.List.{List, [], ◌∷◌, ◌++◌, map, Memᴰ}
use Prim.Native.Nat.{ℕ, ◌≤◌}
use Rattle.limit.specs.Time.{Time}
use Rattle.zone.specs.declared.Zone.{Zone}
use Rattle.zone.specs.Zone.{In, InMaybe, Proper, Stretch, everything}
use Rattle.zone.proofs.Laws.{everything_members, proper_everything, proper_meet, proper_compose}
use Rattle.list.specs.Members.{Lies, AllProper}
use Rattle.list.proofs.Coverage.{Offered, clash}
use Rattle.list.proofs.Members.{lies, nothing_lies, lies_one}
use Rattle.pairs.specs.Pairs.{pairs}
use Rattle.pairs.specs.declared.Operation.TheVariants.{Meet, Compose}
use Rattle.pairs.proofs.Pairs.{pairs_mem}
use Rattle.operators.proofs.Members.{offered_meets, offered_compositions}
use Rattle.absence.specs.Absence.{parts_each}
use Rattle.absence.proofs.Theorems.{lies_cons, each_members, each_proper}

-- ---- one zone, and a zone for each of a list of things

pub single_proper : {from to : ℕ} {z : Zone} → Proper from to z → AllProper from to (z ∷ [])
single_proper {from} {to} p v m = subst (Proper from to) (sym (eq_of_singleton m)) p

module _ {A : Type 0} (of : A → Zone) (L : List A) where
  -- a stretch lies in the zone of one of them
  pub map_lies : (x y : Time) → Lies (map of L) x y ↔ ((a : A) × Memᴰ a L × In (of a) x y)
  map_lies x y = (
    λ l. let k = Memᴰ.of_map of L l.among in (k.0, k.1, subst (λ (z : Zone). In z x y) (sym k.2) l.member),
    λ h. lies (Memᴰ.map of h.1) h.2,
  )

  pub map_proper : {from to : ℕ} → ((a : A) → Memᴰ a L → Proper from to (of a)) → AllProper from to (map of L)
  map_proper {from} {to} p z m = let k = Memᴰ.of_map of L m in subst (Proper from to) k.2 (p k.0 k.1)

-- ---- the zones among answers, an empty answer being passed over

unfoldable pub zones_of : List (Option Zone) → List Zone
zones_of [] = []
zones_of (None ∷ rs) = zones_of rs
zones_of (Some z ∷ rs) = z ∷ zones_of rs

-- each of them is an answer ..
pub of_mem : (rs : List (Option Zone)) {z : Zone} → Memᴰ z (zones_of rs) → Memᴰ (Some z) rs
unfolding zones_of
of_mem [] m = absurd (not-nil m)
of_mem (None ∷ rs) m = tail (of_mem rs m)
of_mem (Some a ∷ rs) m = ⊎_elim (λ e. head (ap Some e)) (λ n. tail (of_mem rs n)) (cases_cons m)

-- .. and each answer that is a zone is one of them
pub mem_of : {z : Zone} (rs : List (Option Zone)) → Memᴰ (Some z) rs → Memᴰ z (zones_of rs)
unfolding zones_of
mem_of [] m = absurd (not-nil m)
mem_of (None ∷ rs) m = ⊎_elim (λ e. clash (cc)) (mem_of rs) (cases_cons m)
mem_of {z} (Some a ∷ rs) m = ⊎_elim (λ e. let q : z ≡ a = cc in head q) (λ n. tail (mem_of rs n)) (cases_cons m)

-- in them lie the stretches of the answers
pub zones_of_lies : (rs : List (Option Zone)) (x y : Time) → Lies (zones_of rs) x y ↔ Offered rs x y
zones_of_lies rs x y = (λ l. (Some l.in_zone, of_mem rs l.among, l.member), λ o. some o.0 o.1 o.2)
  where
    some : (r : Option Zone) → Memᴰ r rs → InMaybe r x y → Lies (zones_of rs) x y
    some (Some z) m i = lies (mem_of rs m) i
    some None m i = absurd i

pub zones_of_proper : {from to : ℕ} (rs : List (Option Zone)) → ((z : Zone) → Memᴰ (Some z) rs → Proper from to z) → AllProper from to (zones_of rs)
zones_of_proper rs h z m = h z (of_mem rs m)

-- one answer: its stretches
pub answer_lies : (r : Option Zone) (x y : Time) → Lies (zones_of (r ∷ [])) x y ↔ InMaybe r x y
unfolding zones_of
answer_lies (Some z) x y = lies_one z x y
answer_lies None x y = (λ l. absurd (nothing_lies l), λ i. absurd i)

-- ---- `|`: either list

module _ (A B : List Zone) where
  pub append_lies : (x y : Time) → Lies (A ++ B) x y ↔ (Lies A x y ⊎ Lies B x y)
  append_lies x y = (
    λ l. ⊎_map (λ m. lies m l.member) (λ m. lies m l.member) (append_cases A l.among),
    ⊎_elim (λ l. lies (append_left B l.among) l.member) (λ l. lies (append_right A l.among) l.member),
  )

  pub append_proper : {from to : ℕ} → AllProper from to A → AllProper from to B → AllProper from to (A ++ B)
  append_proper a b z m = ⊎_elim (a z) (b z) (append_cases A m)

-- ---- `&` and `.`: the meets and the compositions of all pairs

abbrev pub all_meets : List Zone → List Zone → List Zone
all_meets A B = zones_of (pairs Meet A B)

abbrev pub all_compositions : List Zone → List Zone → List Zone
all_compositions A B = zones_of (pairs Compose A B)

module _ (A B : List Zone) where
  -- the stretches that lie in both lists
  pub all_meets_lies : (x y : Time) → Lies (all_meets A B) x y ↔ (Lies A x y × Lies B x y)
  all_meets_lies x y = Iff.trans (zones_of_lies (pairs Meet A B) x y) (offered_meets A B x y)

  module _ {from to : ℕ} (a : AllProper from to A) where
    pub all_meets_proper : AllProper from to (all_meets A B)
    all_meets_proper = zones_of_proper (pairs Meet A B) (λ z m. let p = pairs_mem Meet A B m in proper_meet p.1 (a p.0 p.2) p.4)

    module _ (b : AllProper from to B) where
      -- the stretches with some cut
      pub all_compositions_lies : (x y : Time) → Lies (all_compositions A B) x y ↔ ((t : Time) × Lies A x t × Lies B t y)
      all_compositions_lies x y = Iff.trans (zones_of_lies (pairs Compose A B) x y) (offered_compositions A B x y a b)

      pub all_compositions_proper : AllProper from to (all_compositions A B)
      all_compositions_proper =
          zones_of_proper (pairs Compose A B) (λ z m. let p = pairs_mem Compose A B m in proper_compose (a p.0 p.2) (b p.1 p.3) p.4)

-- ---- `~`: all stretches less those of each zone

-- the parts of L outside every zone of W
unfoldable outside_all : List Zone → List Zone → List Zone
outside_all [] L = L
outside_all (w ∷ W) L = outside_all W (zones_of (parts_each w L))

-- in them lie the stretches of L that lie in no zone of W
outside_all_lies : (W L : List Zone) (x y : Time) → Lies (outside_all W L) x y ↔ (Lies L x y × ¬ Lies W x y)
unfolding outside_all
outside_all_lies [] L x y = (λ l. (l, nothing_lies), λ h. h.0)
outside_all_lies (w ∷ W) L x y =
    let a = Iff.trans (zones_of_lies (parts_each w L) x y) (each_members w L x y) in
    let c = lies_cons w W x y in
    Iff.trans (outside_all_lies W (zones_of (parts_each w L)) x y) (
      λ h. let i = a.0 h.0 in (i.0, λ l. ⊎_elim i.1 h.1 (c.0 l)),
      λ h. (a.1 (h.0, λ i. h.1 (c.1 (inl i))), λ l. h.1 (c.1 (inr l))),
    )

outside_all_proper : {from to : ℕ} (W L : List Zone) → AllProper from to L → AllProper from to (outside_all W L)
unfolding outside_all
outside_all_proper [] L h = h
outside_all_proper (w ∷ W) L h = outside_all_proper W (zones_of (parts_each w L)) (zones_of_proper (parts_each w L) (each_proper w L h))

-- "Begin with one zone, all stretches"
pub complement : ℕ → ℕ → List Zone → List Zone
complement from to W = outside_all W (everything from to ∷ [])

module _ (from to : ℕ) (W : List Zone) where
  -- of the stretches inside from..to those that do not lie in W
  pub complement_lies : (x y : Time) → Stretch from to x y → Lies (complement from to W) x y ↔ ¬ Lies W x y
  unfolding complement
  complement_lies x y s =
      let i = (lies_one (everything from to) x y).1 ((everything_members from to x y).1 s) in
      Iff.trans (outside_all_lies W (everything from to ∷ []) x y) (λ h. h.1, λ n. (i, n))

  pub complement_proper : from ≤ to → AllProper from to (complement from to W)
  unfolding complement
  complement_proper h = outside_all_proper W (everything from to ∷ []) (single_proper (proper_everything from to h))
