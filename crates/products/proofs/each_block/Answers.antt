use Rattle.std.proofs.Common.{◌≡◌, ◌*◌, ◌≤◌, ◌<◌, ap, false, arith}
use Rattle.std.proofs.lemmas.Grind.{div_ceil_times}
use Rattle.std.proofs.lemmas.Result.{err_from_is_err_and}
use Rattle.list.proofs.Scan.{nothing_left}
use Rattle.pairs.proofs.Combining.{combining_start, combining_same, combining_end}
use Rattle.pairs.proofs.Zones.{still_zones, proper_one}
use Rattle.pairs.specs.Pairs.{beside}
use Rattle.products.proofs.Blocks.{first_block, block_pairing, block_on, block_overflow, block_past}
use Rattle.products.proofs.each_block.Goals as goal
use Rattle.products.proofs.each_block.Goals.{In-loop-b, After-loop-b}

-- block b has zones, as long as the loop goes on
begun : (g : _) (c : In-loop-b g) → c.loop-b.b * 16 < c.args.m
begun g c = let t = div_ceil_times c.args.m 16 (omega arith) in omega (arith, c.div_ceil-b-end.ensures, t.1, c.loop-b-test.true)

done : (g : _) (c : After-loop-b g) → c.args.m ≤ c.loop-b.b * 16
done g c = let t = div_ceil_times c.args.m 16 (omega arith) in omega (arith, c.div_ceil-b-end.ensures, t.0, c.loop-b-test.false)

pub loop-b-init : goal.loop-b-init
loop-b-init g c = combining_same (first_block c.requires.0) (combining_start _ _ _ _ _ c.requires.0.stands)

pub reaches-requires : goal.reaches-requires
reaches-requires g c =
    let one = still_zones c.requires.0.one c.loop-b.invariant.going.frame in
    let l = begun g (goal.at.reaches-requires g c).In-loop-b in
    (omega (arith, one.room), proper_one one, omega (arith, c.requires.2, l, c.requires.3))

pub loop-b-preserved-then-not-reaches : goal.loop-b-preserved-then-not-reaches
loop-b-preserved-then-not-reaches g c =
    let turn = c.loop-b.invariant in
    let e : c.reaches.result ≡ false = c.if-not-reaches.true in
    block_past c.requires.0 turn.going.frame _ (begun g (goal.at.loop-b-preserved-then-not-reaches g c).In-loop-b) turn c.requires.1 (rw e at c.reaches.ensures)

pub each_right-requires : goal.each_right-requires
each_right-requires g c =
    let turn = c.loop-b.invariant in
    rw c.block_size-k.ensures (block_pairing c.requires.0 turn.going.frame _ (begun g (goal.at.each_right-requires g c).In-loop-b) turn)

pub returns-in_err-grown-clause-grown : goal.returns-in_err-grown-clause-grown
returns-in_err-grown-clause-grown g c =
    let turn = c.loop-b.invariant in
    let p = err_from_is_err_and c.from_residual.result c.from_residual.ensures.1 in
    let full = rw c.block_size-k.ensures at c.in_err-grown.ensures.grown in
    rw p.1 (block_overflow c.requires.0 turn.going.frame _ (begun g (goal.at.returns-in_err-grown-clause-grown g c).In-loop-b) turn full)

pub loop-b-preserved : goal.loop-b-preserved
loop-b-preserved g c =
    let turn = c.loop-b.invariant in
    let grown = rw c.block_size-k.ensures at c.in_ok-grown.ensures.grown in
    block_on c.requires.0 turn.going.frame _ (begun g (goal.at.loop-b-preserved g c).In-loop-b) turn grown c.in_ok-grown.ensures.kept

pub returns : goal.returns
returns g c = record {
  grown = combining_end (ap (beside _) (nothing_left _ _ _ _ (done g c))) c.loop-b.invariant;
  kept = c.loop-b.invariant.going.frame;
}
