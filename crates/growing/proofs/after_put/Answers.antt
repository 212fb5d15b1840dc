use Rattle.std.proofs.Common.{refl}
use Rattle.growing.proofs.after_put.Goals as goal

pub returns : goal.returns
returns c = rw (c.in_ok-count.was, c.in-Some.is) (c.with_zone.result, c.with_zone.ensures, refl)
