-- A wrong change is one among all.
use Rattle.std.proofs.Common.{sym, arith}
use Rattle.recording.proofs.Refusals.{one_wrong}
use Rattle.recording.proofs.all_changed.Goals as goal

pub returns-then-not-changed : goal.returns-then-not-changed
returns-then-not-changed c =
    sym (one_wrong c.args.bytes.now c.args.changes c.loop-j.j (omega arith) (omega arith) (rw (c.changed.ensures, c.if-not-changed.true)))
