use Rattle.std.proofs.Common.{ap, arith}
use Rattle.std.proofs.lemmas.Result.{err_from_is_err_and}
use Rattle.list.proofs.Puts.{held}
use Rattle.list.proofs.Scan.{nothing_left}
use Rattle.pairs.proofs.Combining.{combining_start, combining_same, combining_end}
use Rattle.pairs.proofs.Turns.{from_first, pair_ready, pair_countable, pair_overflow, combined_ranged, combined_past, combined_on, counting_stands, counting_count}
use Rattle.pairs.specs.Pairs.{beside}
use Rattle.pairs.proofs.each_right.Goals as goal

pub loop-j-init : goal.loop-j-init
loop-j-init g c = combining_same (from_first c.requires) (combining_start _ _ _ _ _ c.requires.stands)

pub combined-requires : goal.combined-requires
combined-requires g c = pair_ready c.requires c.loop-j.invariant.going.frame _ c.loop-j-test.true

pub loop-j-preserved-in_default : goal.loop-j-preserved-in_default
loop-j-preserved-in_default g c =
    let turn = c.loop-j.invariant in
    combined_past c.requires turn.going.frame _ c.loop-j-test.true g.C.Combine.op turn c.in_default.ensures

pub write_zone-requires : goal.write_zone-requires
write_zone-requires g c = (omega arith, combined_ranged c.requires c.loop-j.invariant.going.frame _ c.loop-j-test.true g.C.Combine.op c.in-Some.ensures.0)

pub count_pair-requires : goal.count_pair-requires
count_pair-requires g c = pair_countable c.requires c.loop-j.invariant.going.frame _ c.loop-j-test.true c.loop-j.invariant

pub grow_words-requires : goal.grow_words-requires
grow_words-requires g c = rw c.count_pair.ensures (counting_stands g.C.Combine.op c.loop-j.invariant.going.stands)

pub returns-in_err-grown-clause-grown : goal.returns-in_err-grown-clause-grown
returns-in_err-grown-clause-grown g c =
    let turn = c.loop-j.invariant in
    let p = err_from_is_err_and c.from_residual.result c.from_residual.ensures.1 in
    let full = rw (held c.in-Some.v _ c.write_zone.ensures (omega arith), c.count_pair.ensures, counting_count g.C.Combine.op c.loop-j.grown) at c.in_err-grown.ensures.grown in
    rw p.1 (pair_overflow c.requires turn.going.frame _ c.loop-j-test.true turn c.in-Some.ensures.0 full)

pub loop-j-preserved : goal.loop-j-preserved
loop-j-preserved g c =
    let turn = c.loop-j.invariant in
    let grown = rw (held c.in-Some.v _ c.write_zone.ensures (omega arith), c.count_pair.ensures) at c.in_ok-grown.ensures.grown in
    combined_on c.requires turn.going.frame _ c.loop-j-test.true g.C.Combine.op turn c.in-Some.ensures grown c.in_ok-grown.ensures.kept

pub returns : goal.returns
returns g c = record {
  grown = combining_end (ap (beside _) (nothing_left _ _ _ _ c.loop-j-test.false)) c.loop-j.invariant;
  kept = c.loop-j.invariant.going.frame;
}
