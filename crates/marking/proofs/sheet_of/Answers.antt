-- The text fits, and it is the sheet of the call.
use Rattle.std.proofs.Common.{arith}
use Rattle.marking.proofs.Printing.{is_printed, prints}
use Rattle.marking.proofs.sheet_of.Goals as goal

pub unwrap-requires : goal.unwrap-requires
unwrap-requires c =
    let call = c.find-outcome.ensures.demand1.defined in
    is_printed call _ _ c.text.result (prints call _ _ _ c.from-told.ensures c.front.ensures.words (omega arith) c.text.ensures.answer c.text.ensures.out)

pub returns : goal.returns
returns c =
    let call = c.find-outcome.ensures.demand1.defined in
    let both = rw c.unwrap.ensures at (prints call _ _ _ c.from-told.ensures c.front.ensures.words (omega arith) c.text.ensures.answer c.text.ensures.out) in
    record { sheet = both.0; count = both.1.0; rest = both.1.1 }
