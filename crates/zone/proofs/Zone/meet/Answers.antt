use Rattle.std.proofs.Common.{ap, ◌∙◌}
use Rattle.limit.proofs.Order.{⊕-comm}
use Rattle.limit.specs.Limit.{at_most, nought}
use Rattle.zone.proofs.Means.{meet_means}
use Rattle.zone.proofs.Ranges.{ranged_both}
use Rattle.zone.proofs.Steps.{no_room}
use Rattle.zone.proofs.Tighten.{meet_first_l, meet_first_r}
use Rattle.zone.specs.Zone.{meet, tighten}
use Rattle.zone.proofs.Zone.meet.Goals as goal

pub returns-then-not-leaves_room-clause-value : goal.returns-then-not-leaves_room-clause-value
returns-then-not-leaves_room-clause-value c =
    let z = c.args.self in
    let w = c.args.other in
    no_room _ _ (meet z w) (c.leaves_room.ensures ∙ ap (at_most nought) (⊕-comm _ _)) c.if-not-leaves_room.true ∙ meet_first_l z w

pub returns-then-not-leaves_room-clause-meaning : goal.returns-then-not-leaves_room-clause-meaning
returns-then-not-leaves_room-clause-meaning c =
    let z = c.args.self in
    let w = c.args.other in
    meet_means z w (returns-then-not-leaves_room-clause-value c)

pub returns-then-not-leaves_room-2-clause-value : goal.returns-then-not-leaves_room-2-clause-value
returns-then-not-leaves_room-2-clause-value c =
    let z = c.args.self in
    let w = c.args.other in
    no_room _ _ (meet z w) c.leaves_room-2.ensures c.if-not-leaves_room-2.true ∙ meet_first_r z w

pub returns-then-not-leaves_room-2-clause-meaning : goal.returns-then-not-leaves_room-2-clause-meaning
returns-then-not-leaves_room-2-clause-meaning c =
    let z = c.args.self in
    let w = c.args.other in
    meet_means z w (returns-then-not-leaves_room-2-clause-value c)

pub tighten-requires : goal.tighten-requires
tighten-requires c =
    rw c.both.ensures (ranged_both c.args.self c.args.other c.requires.0 c.requires.1)

pub returns-clause-value : goal.returns-clause-value
unfolding meet
returns-clause-value c =
    c.tighten.ensures.value ∙ ap tighten c.both.ensures

pub returns-clause-meaning : goal.returns-clause-meaning
unfolding meet
returns-clause-meaning c =
    let z = c.args.self in
    let w = c.args.other in
    meet_means z w (returns-clause-value c)
