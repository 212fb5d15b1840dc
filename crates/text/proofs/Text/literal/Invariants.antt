use Rattle.std.proofs.Common.{take}
use Rattle.text.specs.Buffer.{Puts}
use Rattle.text.proofs.Text.literal.Given as goal

abbrev pub invariant-loop-b : goal.invariant-loop-b
invariant-loop-b l = Puts (take l.b-index l.s) l.initial.self l.self
