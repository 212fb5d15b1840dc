use Rattle.std.proofs.Common.{◌+◌, ◌*◌, ◌≡◌, arith}
use Rattle.list.proofs.Slots.{copied_on, copied_zone}
use Rattle.list.proofs.copy_zones.Goals as goal

pub loop-k-preserved : goal.loop-k-preserved
loop-k-preserved c =
    let k = c.loop-k.k in
    let sofar = c.loop-k.invariant in
    let next = copied_zone c.loop-k.words (c.args.from + k * 6) (c.args.to + k * 6) (omega (arith, sofar.kept.same_length)) in
    let e : k * 6 + 6 ≡ (k + 1) * 6 = omega arith in
    rw (c.move_zone.ensures, ← e) (copied_on sofar next c.requires.2 (omega arith))

pub returns : goal.returns
returns c =
    let e : c.loop-k.k ≡ c.args.n = omega arith in
    rw e at c.loop-k.invariant
