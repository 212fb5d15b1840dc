-- `lines::line`: the bytes of the place before its first newline.
use Rattle.std.proofs.Common.{arith}
use Rattle.lines.proofs.Places.{line_bytes}
use Rattle.lines.proofs.line.Goals as goal

pub returns : goal.returns
returns c drill plain held = line_bytes plain held c.line_length.ensures (omega arith) (omega arith)
