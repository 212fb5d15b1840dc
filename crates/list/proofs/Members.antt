-- What lies in the zones that are put.
use Rattle.std.specs.Prelude.{Option, Some}
use mathlib.Core.Path.{◌≡◌, refl, sym, subst}
use mathlib.Core.Logic.Iff
use mathlib.Core.Logic.{◌↔◌, ◌⊎◌, ⊎_map, ⊎_elim}
use mathlib.Core.List.Memᴰ
use mathlib.Core.List.Memᴰ.{append_cases}
use mathlib.Core.List.Memᴰ.{append_left}
use mathlib.Core.List.Memᴰ.{append_right}
use mathlib.Core.List.Memᴰ.{eq_of_singleton}
use mathlib.Core.List.Memᴰ.{head}
use mathlib.Core.List.Memᴰ.{not-nil}
use mathlib.Core.List.{List, [], ◌∷◌, ◌++◌, map, Memᴰ}
use Rattle.limit.specs.Time.{Time}
use Rattle.zone.specs.declared.Zone.{Zone}
use Rattle.zone.specs.Zone.{In, InMaybe}
use Rattle.list.specs.Members.{Lies}
use Rattle.list.proofs.Coverage.{Offered}

pub lies : {z : Zone} {L : List Zone} {x y : Time} → Memᴰ z L → In z x y → Lies L x y
lies {z} m i = record { in_zone = z; among = m; member = i }

-- ---- a list of none, and of one

pub nothing_lies : {x y : Time} → ¬ Lies [] x y
nothing_lies l = not-nil l.among

pub lies_one : (z : Zone) (x y : Time) → Lies (z ∷ []) x y ↔ In z x y
lies_one z x y = (λ l. subst (λ (k : Zone). In k x y) (eq_of_singleton l.among) l.member, lies (head refl))

-- ---- the zones of a list, as they are put

-- a zone that is put is one of them, and a stretch lies in one that is put if it lies in the list
pub mem_zones : (K : List Zone) {z : Zone} → Memᴰ (Some z) (map Some K) → Memᴰ z K
mem_zones K {z} m = let k = Memᴰ.of_map Some K m in let q : z ≡ k.0 = cc in Memᴰ.cast q k.1

pub offered_zones : (K : List Zone) (x y : Time) → Offered (map Some K) x y ↔ Lies K x y
offered_zones K x y = (
  λ o. let k = Memᴰ.of_map Some K o.1 in lies k.1 (subst (λ (r : Option Zone). InMaybe r x y) (sym k.2) o.2),
  λ l. (Some l.in_zone, Memᴰ.map Some l.among, l.member),
)

pub offered_one : (z : Zone) (x y : Time) → Offered (Some z ∷ []) x y ↔ In z x y
offered_one z x y = Iff.trans (offered_zones (z ∷ []) x y) (lies_one z x y)

-- puts in two parts: a stretch lies in a zone of either
pub offered_append : (rs ss : List (Option Zone)) (x y : Time) → Offered (rs ++ ss) x y ↔ (Offered rs x y ⊎ Offered ss x y)
offered_append rs ss x y = (
  λ o. ⊎_map (λ m. (o.0, m, o.2)) (λ m. (o.0, m, o.2)) (append_cases rs o.1),
  ⊎_elim (λ o. (o.0, append_left ss o.1, o.2)) (λ o. (o.0, append_right rs o.1, o.2)),
)
