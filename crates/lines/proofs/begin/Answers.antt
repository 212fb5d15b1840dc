-- `lines::begin`: no text.
use Rattle.lines.proofs.Taking.{sums_none}
use Rattle.lines.proofs.begin.Goals as goal

pub returns : goal.returns
returns c = sums_none
