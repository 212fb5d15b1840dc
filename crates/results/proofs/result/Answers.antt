-- `result` meets its contract: the number, a newline and the sheet, one behind the other.
use Rattle.results.proofs.Printing.{result_roomy, result_printed}
use Rattle.results.proofs.result.Goals as goal

pub append-requires : goal.append-requires
append-requires c =
    let call = c.find_within-outcome.ensures.demand1.defined in
    rw (c.front.ensures.words, c.from-told.ensures) (result_roomy call).0

pub returns : goal.returns
returns c =
    let call = c.find_within-outcome.ensures.demand1.defined in
    result_printed call c.requires c.decimal.ensures c.put.ensures (rw (c.front.ensures.words, c.from-told.ensures) at c.append.ensures)
