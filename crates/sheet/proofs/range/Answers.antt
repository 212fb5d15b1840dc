-- `sheet::range`: its five pieces, one behind the other.
use Rattle.std.proofs.Common.{sym, ◌∙◌, rules}
use mir.Syntax.{w64}
use Rattle.std.proofs.Math.Facts.{to_z-of_z}
use Rattle.sheet.specs.Sheet.{range}
use Rattle.text.proofs.Buffer.{◌then◌}
use Rattle.sheet.proofs.range.Goals as goal

pub returns : goal.returns
unfolding range
returns c =
    let from = to_z-of_z {w = w64} {z = c.negated.result} (search rules) ∙ c.negated.ensures in
    let to = to_z-of_z {w = w64} {z = c.number.result} (search rules) ∙ c.number.ensures.0 in
    rw (sym from, sym to) (c.bracket.ensures then c.integer.ensures then c.put.ensures then c.integer-2.ensures then c.bracket-2.ensures)
