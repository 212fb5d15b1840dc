-- `lines::lines_of`: the text is the only chunk.
use Rattle.std.proofs.Common.{[]}
use Rattle.lines.proofs.lines_of.Goals as goal

pub returns : goal.returns
returns c = record {
  counted = c.count.ensures _ _ (c.take_in-taken.ensures.sums [] (c.begin-none.ensures _));
  beyond = c.take_in-taken.ensures.beyond;
}
