use Rattle.std.specs.Prelude.{Some}
use Rattle.std.proofs.Common.{arith, ◌∙◌}
use Rattle.zone.proofs.Means.{tighten_means}
use Rattle.zone.proofs.Ranges.{ranged_tighter}
use Rattle.zone.proofs.Steps.{no_room, has_room, checked, tighten_checked}
use Rattle.zone.specs.Zone.{where_room}
use Rattle.zone.proofs.Zone.tighten.Goals as goal

pub leaves_room-requires : goal.leaves_room-requires
leaves_room-requires c = let r = rw (← c.tighter-t.ensures) at (ranged_tighter c.args.self c.requires) in (omega (arith, r.start), omega (arith, r.nstart))

pub returns-then-not-leaves_room-clause-value : goal.returns-then-not-leaves_room-clause-value
unfolding checked
returns-then-not-leaves_room-clause-value c =
    let t = c.tighter-t.result in
    tighten_checked c.args.self c.tighter-t.ensures (no_room _ _ (where_room t.end t.nend (where_room t.length t.nlength (Some t))) c.leaves_room.ensures c.if-not-leaves_room.true)

pub returns-then-not-leaves_room-clause-meaning : goal.returns-then-not-leaves_room-clause-meaning
unfolding checked
returns-then-not-leaves_room-clause-meaning c =
    tighten_means c.args.self (returns-then-not-leaves_room-clause-value c)

pub leaves_room-requires-2 : goal.leaves_room-requires-2
leaves_room-requires-2 c = let r = rw (← c.tighter-t.ensures) at (ranged_tighter c.args.self c.requires) in (omega (arith, r.end), omega (arith, r.nend))

pub returns-then-not-leaves_room-2-clause-value : goal.returns-then-not-leaves_room-2-clause-value
unfolding checked
returns-then-not-leaves_room-2-clause-value c =
    let the-tighter = c.tighter-t in
    let t = the-tighter.result in
    tighten_checked c.args.self the-tighter.ensures (no_room _ _ (where_room t.length t.nlength (Some t)) c.leaves_room-2.ensures c.if-not-leaves_room-2.true ∙ has_room _ _ (where_room t.end t.nend (where_room t.length t.nlength (Some t))) c.leaves_room.ensures c.if-not-leaves_room.false)

pub returns-then-not-leaves_room-2-clause-meaning : goal.returns-then-not-leaves_room-2-clause-meaning
unfolding checked
returns-then-not-leaves_room-2-clause-meaning c =
    tighten_means c.args.self (returns-then-not-leaves_room-2-clause-value c)

pub leaves_room-requires-3 : goal.leaves_room-requires-3
leaves_room-requires-3 c = let r = rw (← c.tighter-t.ensures) at (ranged_tighter c.args.self c.requires) in (omega (arith, r.length), omega (arith, r.nlength))

pub returns-then-not-leaves_room-3-clause-value : goal.returns-then-not-leaves_room-3-clause-value
unfolding checked
returns-then-not-leaves_room-3-clause-value c =
    let the-tighter = c.tighter-t in
    let t = the-tighter.result in
    tighten_checked c.args.self the-tighter.ensures (no_room _ _ (Some t) c.leaves_room-3.ensures c.if-not-leaves_room-3.true ∙ has_room _ _ (where_room t.length t.nlength (Some t)) c.leaves_room-2.ensures c.if-not-leaves_room-2.false ∙ has_room _ _ (where_room t.end t.nend (where_room t.length t.nlength (Some t))) c.leaves_room.ensures c.if-not-leaves_room.false)

pub returns-then-not-leaves_room-3-clause-meaning : goal.returns-then-not-leaves_room-3-clause-meaning
unfolding checked
returns-then-not-leaves_room-3-clause-meaning c =
    tighten_means c.args.self (returns-then-not-leaves_room-3-clause-value c)

pub returns-clause-value : goal.returns-clause-value
unfolding checked
returns-clause-value c =
    let the-tighter = c.tighter-t in
    let t = the-tighter.result in
    tighten_checked c.args.self the-tighter.ensures (has_room _ _ (Some t) c.leaves_room-3.ensures c.if-not-leaves_room-3.false ∙ has_room _ _ (where_room t.length t.nlength (Some t)) c.leaves_room-2.ensures c.if-not-leaves_room-2.false ∙ has_room _ _ (where_room t.end t.nend (where_room t.length t.nlength (Some t))) c.leaves_room.ensures c.if-not-leaves_room.false)

pub returns-clause-meaning : goal.returns-clause-meaning
unfolding checked
returns-clause-meaning c =
    tighten_means c.args.self (returns-clause-value c)
