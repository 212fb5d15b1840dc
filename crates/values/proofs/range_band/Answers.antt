-- `range_band` meets its contract: both limits of a right range are small.
use Rattle.std.proofs.Common.{◌∙◌, arith}
use Rattle.values.proofs.Standings.{lower_small, small_lower, small_longest}
use Rattle.zone.specs.Zone.{band}
use Rattle.values.proofs.range_band.Goals as goal

pub lower_limit-requires : goal.lower_limit-requires
lower_limit-requires c = lower_small c.args.range c.requires

pub band-requires : goal.band-requires
band-requires c = (
  omega (arith, c.args.ticks.forward, c.args.ticks.small),
  c.args.ticks.small,
  rw c.longest-hi.ensures (small_longest c.args.ticks.from c.args.ticks.to c.args.range c.args.ticks.small c.requires),
  rw c.lower_limit.ensures (small_lower c.args.range.lo (lower_small c.args.range c.requires)),
)

pub returns : goal.returns
returns c =
    let args = c.args in
    c.band.ensures.value ∙ (λ i. band args.ticks.from args.ticks.to (c.longest-hi.ensures i) (c.lower_limit.ensures i))
