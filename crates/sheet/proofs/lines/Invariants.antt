use Rattle.sheet.specs.Sheet.{lines as rows}
use Rattle.text.specs.Buffer.{Puts}
use Rattle.sheet.proofs.lines.Given as goal

abbrev pub invariant-loop-i : goal.invariant-loop-i
invariant-loop-i l = Puts (rows l.front l.i) l.initial.text l.text
