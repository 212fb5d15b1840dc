-- What lies in the zones that a pair loop puts.
use Rattle.std.specs.Prelude.{Option}
use mathlib.Core.Path.{sym, subst}
use mathlib.Core.Logic.{◌↔◌}
use mathlib.Core.List.{List, Memᴰ}
use Prim.Native.Nat.{ℕ}
use Rattle.limit.specs.Time.{Time}
use Rattle.zone.specs.declared.Zone.{Zone}
use Rattle.zone.specs.Zone.{InMaybe}
use Rattle.zone.proofs.Laws.{meet_members, compose_members}
use Rattle.pairs.specs.declared.Operation.{Operation}
use Rattle.pairs.specs.declared.Operation.TheVariants.{Meet, Compose}
use Rattle.pairs.specs.Pairs.{apply, pairs}
use Rattle.list.specs.Members.{Lies, AllProper}
use Rattle.list.proofs.Coverage.{Offered}
use Rattle.pairs.proofs.Pairs.{pairs_mem, mem_pairs}
use Rattle.list.proofs.Members.{lies}

-- ---- the answers of a pair loop

module _ (A B : List Zone) (x y : Time) where
  offered_pairs : (op : Operation) → Offered (pairs op A B) x y ↔ ((z w : Zone) × Memᴰ z A × Memᴰ w B × InMaybe (apply op z w) x y)
  offered_pairs op = (
    λ o. let p = pairs_mem op A B o.1 in (p.0, p.1, p.2, p.3, subst (λ (q : Option Zone). InMaybe q x y) (sym p.4) o.2),
    λ p. (apply op p.0 p.1, mem_pairs op p.2 p.3, p.4),
  )

  -- for meets: the stretches that lie in both lists
  pub offered_meets : Offered (pairs Meet A B) x y ↔ (Lies A x y × Lies B x y)
  offered_meets = (
    λ o. let p = (offered_pairs Meet).0 o in let i = (meet_members p.0 p.1 x y).0 p.4 in (lies p.2 i.0, lies p.3 i.1),
    λ l. (offered_pairs Meet).1 (l.0.in_zone, l.1.in_zone, l.0.among, l.1.among, (meet_members l.0.in_zone l.1.in_zone x y).1 (l.0.member, l.1.member)),
  )

  -- for compositions: the stretches with some cut
  pub offered_compositions : {from to : ℕ} → AllProper from to A → AllProper from to B → Offered (pairs Compose A B) x y ↔ ((t : Time) × Lies A x t × Lies B t y)
  offered_compositions a b = (
    λ o. let p = (offered_pairs Compose).0 o in
        let c = (compose_members (a p.0 p.2).tight (b p.1 p.3).tight x y).0 p.4 in
        (c.0, lies p.2 c.1, lies p.3 c.2),
    λ l. let p = l.1 in
        let q = l.2 in
        (offered_pairs Compose).1
        (p.in_zone, q.in_zone, p.among, q.among, (compose_members (a p.in_zone p.among).tight (b q.in_zone q.among).tight x y).1 (l.0, p.member, q.member)),
  )
