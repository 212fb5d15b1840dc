use Rattle.limit.specs.Limit.{decode}
use Rattle.parts.proofs.Words.{also_by}
use Rattle.signed.proofs.Machine.{back}
use Rattle.words.specs.Words.{word}
use Rattle.parts.proofs.also.Goals as goal

pub returns : goal.returns
returns c =
    let zone = c.args.zone.now in
    also_by zone c.args.k c.requires (decode c.args.word)
    (rw (back {z = word zone 0} (record { sfits = c.limited-arg-1.given }), back {z = c.args.word} c.ranges.word) at c.limited.ensures)
    (rw (back {z = word zone 1} (record { sfits = c.limited-arg-2-1.given }), back {z = c.args.word} c.ranges.word) at c.limited-2.ensures)
    (rw (back {z = word zone 2} (record { sfits = c.limited-arg-3-1.given }), back {z = c.args.word} c.ranges.word) at c.limited-3.ensures)
    (rw (back {z = word zone 3} (record { sfits = c.limited-arg-4-1.given }), back {z = c.args.word} c.ranges.word) at c.limited-4.ensures)
    (rw (back {z = word zone 4} (record { sfits = c.limited-arg-5-1.given }), back {z = c.args.word} c.ranges.word) at c.limited-5.ensures)
    (rw (back {z = word zone 5} (record { sfits = c.limited-arg-6-1.given }), back {z = c.args.word} c.ranges.word) at c.limited-6.ensures)
