use Rattle.std.specs.Prelude.{Some}
use Rattle.std.proofs.Common.{ap, ◌∙◌}
use Rattle.limit.proofs.Order.{⊕-comm}
use Rattle.limit.specs.Limit.{at_most, nought}
use Rattle.zone.proofs.Means.{compose_means}
use Rattle.zone.proofs.Steps.{no_room, has_room}
use Rattle.zone.specs.Zone.{compose, across, where_room}
use Rattle.zone.proofs.Zone.compose.Goals as goal

pub returns-then-not-leaves_room-clause-value : goal.returns-then-not-leaves_room-clause-value
unfolding compose
returns-then-not-leaves_room-clause-value c =
    let z = c.args.self in
    let w = c.args.other in
    no_room _ _ (where_room z.nend w.start (Some (across z w))) c.leaves_room.ensures c.if-not-leaves_room.true

pub returns-then-not-leaves_room-clause-meaning : goal.returns-then-not-leaves_room-clause-meaning
unfolding compose
returns-then-not-leaves_room-clause-meaning c =
    let z = c.args.self in
    let w = c.args.other in
    compose_means z w (returns-then-not-leaves_room-clause-value c)

pub returns-then-not-leaves_room-2-clause-value : goal.returns-then-not-leaves_room-2-clause-value
unfolding compose
returns-then-not-leaves_room-2-clause-value c =
    let z = c.args.self in
    let w = c.args.other in
    no_room _ _ (Some (across z w)) (c.leaves_room-2.ensures ∙ ap (at_most nought) (⊕-comm _ _)) c.if-not-leaves_room-2.true ∙ has_room _ _ (where_room z.nend w.start (Some (across z w))) c.leaves_room.ensures c.if-not-leaves_room.false

pub returns-then-not-leaves_room-2-clause-meaning : goal.returns-then-not-leaves_room-2-clause-meaning
unfolding compose
returns-then-not-leaves_room-2-clause-meaning c =
    let z = c.args.self in
    let w = c.args.other in
    compose_means z w (returns-then-not-leaves_room-2-clause-value c)

pub returns-clause-value : goal.returns-clause-value
unfolding compose
returns-clause-value c =
    let z = c.args.self in
    let w = c.args.other in
    ap Some c.across.ensures ∙ has_room _ _ (Some (across z w)) (c.leaves_room-2.ensures ∙ ap (at_most nought) (⊕-comm _ _)) c.if-not-leaves_room-2.false ∙ has_room _ _ (where_room z.nend w.start (Some (across z w))) c.leaves_room.ensures c.if-not-leaves_room.false

pub returns-clause-meaning : goal.returns-clause-meaning
unfolding compose
returns-clause-meaning c =
    let z = c.args.self in
    let w = c.args.other in
    compose_means z w (returns-clause-value c)
