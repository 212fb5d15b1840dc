-- The latest start and the earliest end alone are tightened, where some length is left.
use Rattle.std.specs.Prelude.{Some}
use Rattle.std.proofs.Common.{◌≡◌, ap, subst, ◌∙◌, arith, rules}
use Rattle.limit.specs.Limit.{◌≤ᴸ◌, ◌⊕◌, nought, most_ticks}
use Rattle.zone.proofs.Bands.{shifted, no_length, some_length}
use Rattle.zone.proofs.Means.{band_means}
use Rattle.zone.proofs.Ranges.{ranged_limited, ranged_everything}
use Rattle.zone.proofs.Steps.{lacks_room, leaves_room}
use Rattle.zone.specs.Zone.{Zone, everything, limited, Ranged}
use Rattle.zone.proofs.Zone.band.Goals as goal
use Rattle.zone.proofs.Zone.band.Goals.{After-limited-z}

-- all stretches with the two limits
the-limited : (c : After-limited-z) → let a = c.args in c.limited-z.result ≡ limited (everything a.from a.to) a.longest a.shortest
the-limited c = let a = c.args in c.limited-z.ensures ∙ ap (λ (z : Zone). limited z a.longest a.shortest) c.everything.ensures.value

ranged : (c : After-limited-z) → Ranged most_ticks c.limited-z.result
ranged c = rw (the-limited c) (ranged_limited _ _ _ (ranged_everything _ _ c.requires.0 c.requires.1) c.requires.2 c.requires.3)

pub limited-z-requires : goal.limited-z-requires
limited-z-requires c = (rw c.everything.ensures.value (ranged_everything _ _ c.requires.0 c.requires.1), search rules, search rules)

pub leaves_room-requires : goal.leaves_room-requires
leaves_room-requires c = let r = ranged (goal.at.leaves_room-requires c).After-limited-z in (omega (arith, r.length), omega (arith, r.nlength))

pub returns-then-not-leaves_room-clause-value : goal.returns-then-not-leaves_room-clause-value
returns-then-not-leaves_room-clause-value c =
    let a = c.args in
    no_length a.from a.to a.longest a.shortest
    (subst (λ (z : Zone). ¬ (nought ≤ᴸ z.length ⊕ z.nlength)) (the-limited (goal.at.returns-then-not-leaves_room-clause-value c).After-limited-z) (lacks_room _ _ c.leaves_room.ensures c.if-not-leaves_room.true))

pub returns-then-not-leaves_room-clause-meaning : goal.returns-then-not-leaves_room-clause-meaning
returns-then-not-leaves_room-clause-meaning c =
    let a = c.args in
    band_means a.from a.to a.longest a.shortest (returns-then-not-leaves_room-clause-value c)

pub or_sum-requires : goal.or_sum-requires
or_sum-requires c = let r = ranged (goal.at.or_sum-requires c).After-limited-z in (omega (arith, r.start), omega (arith, r.nlength), omega (arith, r.end))

pub or_sum-requires-2 : goal.or_sum-requires-2
or_sum-requires-2 c = let r = ranged (goal.at.or_sum-requires-2 c).After-limited-z in (omega (arith, r.nend), omega (arith, r.nstart), omega (arith, r.nlength))

pub returns-clause-value : goal.returns-clause-value
returns-clause-value c =
    let a = c.args in
    let limits = the-limited (goal.at.returns-clause-value c).After-limited-z in
    let z = c.limited-z.result in
    let moved : ◌≡◌ {A = Zone} (record { start = c.or_sum.result; nstart = z.nstart; end = z.end; nend = c.or_sum-2.result; length = z.length; nlength = z.nlength }) (shifted z) = λ i. record { start = c.or_sum.ensures i; nstart = z.nstart; end = z.end; nend = c.or_sum-2.ensures i; length = z.length; nlength = z.nlength } in
    ap Some moved ∙ ap (λ (w : Zone). Some (shifted w)) limits
    ∙ some_length a.from a.to a.longest a.shortest
    (subst (λ (w : Zone). nought ≤ᴸ w.length ⊕ w.nlength) limits (leaves_room _ _ c.leaves_room.ensures c.if-not-leaves_room.false))

pub returns-clause-meaning : goal.returns-clause-meaning
returns-clause-meaning c =
    let a = c.args in
    band_means a.from a.to a.longest a.shortest (returns-clause-value c)
