use Rattle.std.proofs.Common.{sym, subst, ◌∙◌, arith}
use Rattle.limit.specs.Limit.{at_most, nought, ◌⊕◌, Small, most_sum}
use Rattle.parts.proofs.Limits.{cuttable_small, room_means}
use Rattle.parts.proofs.Words.{limit_at, limit_beside, place_opposite}
use Rattle.parts.specs.Parts.{side}
use Rattle.signed.proofs.Machine.{back}
use Rattle.words.specs.Words.{word, zone_at}
use Rattle.zone.specs.Zone.{opposite}
use Rattle.parts.proofs.has_room.Goals as goal

pub offset_bounds-zone-beside : goal.offset_bounds-zone-beside
offset_bounds-zone-beside c = omega (arith, c.beside.ensures, place_opposite c.args.k c.requires.0)

pub bounds-zone-beside : goal.bounds-zone-beside
bounds-zone-beside c = omega (arith, c.beside.ensures, place_opposite c.args.k c.requires.0)

pub room-requires : goal.room-requires
room-requires c =
    let zone = c.args.zone.now in
    rw (back {z = word zone c.beside.result} (record { sfits = c.room-arg-2-1.given }))
    (subst (Small most_sum) (limit_beside zone c.args.k c.requires.0 c.beside.ensures) (omega (arith, cuttable_small c.requires.1 (opposite (side c.args.k)))))

pub returns-clause-value : goal.returns-clause-value
returns-clause-value c =
    let zone = c.args.zone.now in
    let k = c.args.k in
    let beside = c.beside in
    rw (back {z = word zone k} (record { sfits = c.room-arg-1.given }), back {z = word zone beside.result} (record { sfits = c.room-arg-2-1.given })) at c.room.ensures
    ∙ (λ i. at_most nought (sym (limit_at zone k c.requires.0) i ⊕ sym (limit_beside zone k c.requires.0 beside.ensures) i))

pub returns-clause-meaning : goal.returns-clause-meaning
returns-clause-meaning c =
    let zone = c.args.zone.now in
    let k = c.args.k in
    room_means (zone_at zone 0) (side k) (returns-clause-value c)
