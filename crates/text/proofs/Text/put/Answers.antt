-- `text::Text::put`: a byte has room, or it is the first that has none, or an earlier one had none.
use Rattle.std.proofs.Common.{refl}
use Rattle.text.proofs.Buffer.{puts_in, puts_full, puts_none}
use Rattle.text.proofs.Text.put.Goals as goal

pub returns-in_default : goal.returns-in_default
returns-in_default c = puts_none c.in_default.is

pub returns-then-at-self : goal.returns-then-at-self
returns-then-at-self c = puts_in refl c.in-Some.is c.if-at-self.true refl refl

pub returns-else-at-self : goal.returns-else-at-self
returns-else-at-self c = puts_full refl c.in-Some.is c.if-at-self.false refl refl
