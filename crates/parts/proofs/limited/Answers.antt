use Rattle.std.proofs.Common.{sym, ap, ◌∙◌, rules}
use Rattle.limit.proofs.Coding.{decode_code}
use Rattle.limit.specs.Limit.{decode}
use Rattle.parts.proofs.Words.{lowered, not_lowered}
use Rattle.signed.proofs.Machine.{back}
use Rattle.parts.proofs.limited.Goals as goal

pub returns-then-j-k : goal.returns-then-j-k
returns-then-j-k c =
    let lesser = rw (back {z = c.args.word} c.ranges.word, back {z = c.args.other} c.ranges.other) at c.lesser.ensures in
    c.from.ensures ∙ ap decode (back (search rules) ∙ lesser) ∙ decode_code _ ∙ sym (lowered c.args.j c.args.k _ _ (search rules))

pub returns : goal.returns
returns c =
    c.from-2.ensures ∙ ap decode (back {z = c.args.word} c.ranges.word) ∙ sym (not_lowered c.args.j c.args.k _ _ (search rules))
