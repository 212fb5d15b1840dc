use Rattle.std.proofs.Common.{sym}
use Rattle.limit.proofs.Coding.{decode_order}
use Rattle.signed.proofs.Machine.{back}
use Rattle.words.specs.Words.{word}
use Rattle.nesting.proofs.word_at_most.Goals as goal

pub returns : goal.returns
returns c =
    let a = word c.args.inner.now c.args.i in
    let b = word c.args.outer.now c.args.j in
    rw (back {z = a} (record { sfits = c.result-1.given }), back {z = b} (record { sfits = c.result-2-1.given })) (sym (decode_order a b))
