use Rattle.std.proofs.Common.{◌+◌}
use Rattle.signed.proofs.Machine.{back}
use Rattle.touching.proofs.Sharing.{share_tests}
use Rattle.words.specs.Words.{word}
use Rattle.touching.proofs.share.Goals as goal

pub returns : goal.returns
returns c =
    let a = c.args.a.now in
    let b = c.args.b.now in
    share_tests
    (rw (back {z = word b (c.args.j + 1)} (record { sfits = c.room-arg-1.given }), back {z = word a c.args.i} (record { sfits = c.room-arg-2-1.given })) at c.room.ensures)
    (rw (back {z = word b c.args.j} (record { sfits = c.room-arg-3-1.given }), back {z = word a (c.args.i + 1)} (record { sfits = c.room-arg-4-1.given })) at c.room-2.ensures)
