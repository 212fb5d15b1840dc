use Rattle.parts.proofs.Words.{beside_is}
use Rattle.parts.proofs.beside.Goals as goal

pub returns : goal.returns
returns c = beside_is c.args.k c.requires
