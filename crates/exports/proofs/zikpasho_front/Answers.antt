-- The length of what `outcome::front` gives.
use Rattle.std.proofs.Common.{ap, length}
use Rattle.exports.proofs.zikpasho_front.Goals as goal

pub returns : goal.returns
returns c = ap length c.front-front.ensures.words
