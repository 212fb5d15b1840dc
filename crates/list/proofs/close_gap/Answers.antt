-- `close_gap` meets its contract: a gap that is closed in the part from it on is closed in all words.
use Rattle.std.proofs.Common.{arith}
use Rattle.list.proofs.Slots.{gap_closed}
use Rattle.list.proofs.close_gap.Goals as goal

pub returns : goal.returns
returns c = gap_closed c.args.words.now c.args.gap (omega (arith, c.requires)) c.move_down.ensures
