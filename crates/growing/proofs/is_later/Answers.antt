use Rattle.std.proofs.Common.{refl, rules}
use Rattle.growing.proofs.Late.{later_by}
use Rattle.signed.proofs.Machine.{back}
use Rattle.words.specs.Words.{word}
use Rattle.growing.proofs.is_later.Goals as goal

pub returns : goal.returns
returns c =
    let ws = c.args.w.now in
    rw (back {z = c.args.latest.start} (search rules), back {z = c.args.latest.nstart} (search rules), back {z = word ws 0} (search rules), back {z = word ws 1} (search rules))
    (later_by c.args.latest ws _ _ refl refl)
