use Rattle.std.proofs.Common.{arith}
use Rattle.absence.proofs.Alternating.{everything_ready, everything_same}
use Rattle.zone.proofs.Ranges.{ranged_everything}
use Rattle.absence.proofs.absent.Goals as goal

pub overflow_add-base : goal.overflow_add-base
overflow_add-base c = omega (arith, c.requires.1)

pub write_zone-requires : goal.write_zone-requires
write_zone-requires c =
    rw c.everything-everything.ensures.value (omega (arith, c.requires.1), ranged_everything c.args.ticks.from c.args.ticks.to (omega (arith, c.args.ticks.forward, c.args.ticks.small)) c.args.ticks.small)

pub without_each-requires : goal.without_each-requires
without_each-requires c =
    let ticks = c.args.ticks in
    everything_ready c.requires.0 c.requires.1 ticks.from ticks.to (rw c.everything-everything.ensures.value at c.write_zone.ensures) ticks.forward ticks.small

pub returns : goal.returns
returns c =
    let both = everything_same c.requires.0 c.requires.1 c.args.ticks.from c.args.ticks.to (rw c.everything-everything.ensures.value at c.write_zone.ensures) c.without_each.result (c.without_each.ensures.built, c.without_each.ensures.kept) in
    record { built = both.0; kept = both.1 }
