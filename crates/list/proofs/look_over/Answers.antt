-- `look_over` meets its contract: it holds at each place of the zones gone over so far.
use Rattle.std.proofs.Common.{◌≡◌, arith}
use Rattle.list.proofs.Scan.{none_seen, held_here, look_on}
use Rattle.nesting.proofs.Nestings.{nesting_inside, nesting_around}
use Rattle.words.specs.Words.{zone_at}
use Rattle.list.proofs.look_over.Goals as goal
use Rattle.list.proofs.look_over.Goals.{in-Around, in-Apart}

pub loop-i-init : goal.loop-i-init
loop-i-init c = none_seen _ _ _

pub returns-in-Inside : goal.returns-in-Inside
returns-in-Inside c = held_here _ _ _ _ _ c.loop-i-test.true (nesting_inside _ _ c.in-Inside.ensures.value)

pub loop-i-preserved : goal.loop-i-preserved
loop-i-preserved c =
    let z = zone_at c.args.w.now 0 in
    let ws = c.args.words.now in
    let base = c.args.base in
    let i = c.loop-i.i in
    let seen = c.loop-i.seen in
    let sofar = c.loop-i.invariant in
    elim c.match-nested.branch [
      | in-Around w ↦
          let e = w.in-Around.ensures.value in
          let f = nesting_inside _ _ e in
          rw w.seen-is (w.also-seen.ensures z ws base sofar f (nesting_around _ _ e f))
      | in-Apart w ↦
          let e = w.in-Apart.ensures.value in
          let f = nesting_inside _ _ e in
          rw w.seen-is (look_on z ws base i seen f (nesting_around _ _ e f) sofar)
    ]

pub returns : goal.returns
returns c =
    let e : c.loop-i.i ≡ c.args.count = omega arith in
    rw (← e) c.loop-i.invariant
