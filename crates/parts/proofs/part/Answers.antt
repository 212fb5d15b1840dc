use Rattle.std.proofs.Common.{◌≡◌, sym, ap, subst, ◌∙◌, ℕ, ◌<◌, arith, rules}
use Rattle.limit.specs.Limit.{broken, Small, most_sum, most_ticks}
use Rattle.parts.proofs.Limits.{also_cuttable, small_limit, broken_small, part_breaks, part_none}
use Rattle.parts.proofs.Words.{limit_at, no_higher, place_opposite, broken_at}
use Rattle.parts.specs.Parts.{side, also, part}
use Rattle.signed.proofs.Machine.{back}
use Rattle.words.specs.Words.{word, zone_at}
use Rattle.zone.specs.Zone.{limit, opposite, tighten, Ranged}
use Rattle.parts.proofs.part.Goals as goal
use Rattle.parts.proofs.part.Goals.{After-also}

-- the zone that is tightened
breaking : (c : After-also) → c.also.result ≡ also (zone_at c.args.rest.now 0) (opposite (side c.args.k)) (broken (limit (zone_at c.args.cut.now 0) (side c.args.k)))
breaking c =
    let cut = c.args.cut.now in
    broken_at cut c.args.k c.requires.0 c.args.rest.now c.beside.ensures
    (back (search rules) ∙ rw (back {z = word cut c.args.k} (record { sfits = c.broken-arg-1.given })) at c.broken.ensures.value) c.also.ensures

pub returns-then-rest-k-clause-value : goal.returns-then-rest-k-clause-value
returns-then-rest-k-clause-value c =
    let rest = c.args.rest.now in
    let cut = c.args.cut.now in
    let k = c.args.k in
    sym (part_none (zone_at rest 0) (zone_at cut 0) (side k) c.requires.1 c.requires.2
    (no_higher rest k c.requires.0 cut (rw (back {z = word rest k} (record { sfits = c.t7-1.given }), back {z = word cut k} (record { sfits = c.t11-1.given })) at c.if-rest-k.true)))

pub returns-then-rest-k-clause-meaning : goal.returns-then-rest-k-clause-meaning
returns-then-rest-k-clause-meaning c =
    let rest = c.args.rest.now in
    let cut = c.args.cut.now in
    let k = c.args.k in
    part_breaks (zone_at rest 0) (zone_at cut 0) (side k) c.requires.1 c.requires.2 (returns-then-rest-k-clause-value c)

pub broken-requires : goal.broken-requires
broken-requires c =
    let cut = c.args.cut.now in
    rw (back {z = word cut c.args.k} (record { sfits = c.broken-arg-1.given }))
    (subst (Small most_sum) (limit_at cut c.args.k c.requires.0) (omega (arith, small_limit c.requires.2 (side c.args.k))))

pub also-requires : goal.also-requires
also-requires c =
    subst (λ (m : ℕ). m < 6) (sym c.beside.ensures) (place_opposite c.args.k c.requires.0)

pub tighten-requires : goal.tighten-requires
tighten-requires c =
    let k = side c.args.k in
    subst (Ranged most_ticks) (sym (breaking (goal.at.tighten-requires c).After-also)) (also_cuttable (zone_at c.args.rest.now 0) (opposite k) _ c.requires.1 (broken_small c.requires.2 k)).ranged

pub returns-clause-value : goal.returns-clause-value
unfolding part
returns-clause-value c =
    c.tighten.ensures.value ∙ ap tighten (breaking (goal.at.returns-clause-value c).After-also)

pub returns-clause-meaning : goal.returns-clause-meaning
unfolding part
returns-clause-meaning c =
    part_breaks (zone_at c.args.rest.now 0) (zone_at c.args.cut.now 0) (side c.args.k) c.requires.1 c.requires.2 (returns-clause-value c)
