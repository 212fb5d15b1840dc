-- `spell` meets its contract. The loop keeps `Spelt`; the ticks ahead of the cursor become fewer.
use Rattle.std.proofs.Common.{arith}
use Rattle.list.proofs.Puts.{held}
use Rattle.primaries.proofs.Spelling.{spelt_none, spelt_all, spelt_skip, spelt_more, spelt_over, mark_ranged}
use Rattle.primaries.proofs.Windows.{window_small}
use Rattle.primaries.proofs.spell.Goals as goal

pub loop-run-init : goal.loop-run-init
loop-run-init c = spelt_none _ _ _ _ _ _ _ _ _ c.nothing-grown.ensures c.requires

pub returns-clause-value : goal.returns-clause-value
returns-clause-value c = spelt_all _ _ _ _ _ _ c.loop-run.invariant _ (rw c.in_default.is at c.next_run.ensures)

pub mark_of-requires : goal.mark_of-requires
mark_of-requires c =
    let f = (rw c.in-Some.is at c.next_run.ensures).0 in
    let t = window_small c.args.window.now in
    (omega (arith, f.some, f.upper), omega (arith, f.upper))

-- a run without a mark
pub loop-run-preserved-in_default-mark_of : goal.loop-run-preserved-in_default-mark_of
loop-run-preserved-in_default-mark_of c =
    let n = rw c.in-Some.is at c.next_run.ensures in
    spelt_skip _ _ _ _ _ _ c.loop-run.invariant _ _ n c.mark_of.ensures c.in_default-mark_of.is

-- a run with one
pub write_zone-requires : goal.write_zone-requires
write_zone-requires c =
    let f = (rw c.in-Some.is at c.next_run.ensures).0 in
    (omega arith, mark_ranged c.args.mark c.in-Some.run' f (window_small c.args.window.now) c.mark_of.ensures c.in-Some-mark_of.is)

pub returns-in_default-grow_words-clause-value : goal.returns-in_default-grow_words-clause-value
returns-in_default-grow_words-clause-value c =
    let n = rw c.in-Some.is at c.next_run.ensures in
    let over = rw (held c.in-Some-mark_of.z _ c.write_zone.ensures (omega arith)) at c.in_default-grow_words.ensures.grown in
    spelt_over _ _ _ _ _ _ c.loop-run.invariant _ _ n c.mark_of.ensures _ (rw c.in-Some-mark_of.is over.0)

pub loop-run-preserved : goal.loop-run-preserved
loop-run-preserved c =
    let n = rw c.in-Some.is at c.next_run.ensures in
    let built = rw (held c.in-Some-mark_of.z _ c.write_zone.ensures (omega arith)) at c.in-Ok.ensures.grown in
    spelt_more _ _ _ _ _ _ c.loop-run.invariant _ _ n c.mark_of.ensures (rw c.in-Some-mark_of.is built) c.grow_words.ensures.kept
