-- `text::Text::decimal`: the digits before the last, then the last.
use Rattle.text.proofs.Digits.{decimal_digit, decimal_more}
use Rattle.text.proofs.Buffer.{◌then◌}
use Rattle.text.proofs.Text.+decimal.Goals as goal

pub returns-then-n-lt10 : goal.returns-then-n-lt10
returns-then-n-lt10 t c = rw (decimal_digit _ c.if-n-lt10.true) c.put.ensures

pub returns-else-n-lt10 : goal.returns-else-n-lt10
returns-else-n-lt10 t c = rw (decimal_more _ c.if-n-lt10.false) (c.decimal.ensures then c.put-else-n-lt10.ensures)
