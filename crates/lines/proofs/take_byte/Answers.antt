-- `lines::take_byte`: a newline, behind an empty line or not, and any other byte.
use Rattle.std.proofs.Common.{arith}
use Rattle.lines.proofs.Store.{kept_beyond}
use Rattle.lines.proofs.Taking.{sums_newline, sums_byte}
use Rattle.lines.proofs.take_byte.Goals as goal

pub returns-then-state : goal.returns-then-state
returns-then-state c = rw (c.keep.ensures, c.if-b-eq10.true) record {
  sums = λ text h. sums_newline c.requires h (omega arith) (rw c.if-state.true);
  beyond = kept_beyond _ _ _ _;
}

pub returns-else-state : goal.returns-else-state
returns-else-state c = rw (c.keep.ensures, c.if-b-eq10.true) record {
  sums = λ text h. sums_newline c.requires h (omega arith) (rw c.if-state.false);
  beyond = kept_beyond _ _ _ _;
}

pub returns : goal.returns
returns c = rw c.keep.ensures record {
  sums = λ text h. sums_byte c.requires h c.if-b-eq10.false (omega arith);
  beyond = kept_beyond _ _ _ _;
}
