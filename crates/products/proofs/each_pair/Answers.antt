use Rattle.std.proofs.Common.{arith}
use Rattle.std.proofs.lemmas.Result.{err_from_is_err_and}
use Rattle.pairs.proofs.Combining.{combining_start, combining_same}
use Rattle.pairs.proofs.Zones.{supply_zones}
use Rattle.products.proofs.Hulls.{still_hulls}
use Rattle.products.proofs.Rows.{first_row, rows_end, row_pairing, row_on, row_overflow}
use Rattle.products.proofs.each_pair.Goals as goal

pub write_hulls-requires : goal.write_hulls-requires
write_hulls-requires g c = let rights = c.requires.0.rights.list in (rights.few, omega (arith, rights.few, rights.room), omega arith)

pub loop-i-init : goal.loop-i-init
loop-i-init g c = combining_same (first_row c.requires.0) (combining_start _ _ _ _ _ c.requires.1)

pub each_block-requires : goal.each_block-requires
each_block-requires g c =
    let turn = c.loop-i.invariant in
    let rights = c.requires.0.rights in (
      row_pairing c.requires.0 turn.going.frame _ c.loop-i-test.true turn c.requires.2,
      still_hulls c.write_hulls.ensures (supply_zones rights) turn.going.frame,
      omega arith,
      rights.list.few,
    )

pub returns-in_err-grown-clause-grown : goal.returns-in_err-grown-clause-grown
returns-in_err-grown-clause-grown g c =
    let turn = c.loop-i.invariant in
    let p = err_from_is_err_and c.from_residual.result c.from_residual.ensures.1 in
    rw p.1 (row_overflow c.requires.0 turn.going.frame _ c.loop-i-test.true turn c.in_err-grown.ensures.grown)

pub loop-i-preserved : goal.loop-i-preserved
loop-i-preserved g c =
    let turn = c.loop-i.invariant in
    row_on c.requires.0 turn.going.frame _ c.loop-i-test.true turn c.in_ok-grown.ensures.grown c.in_ok-grown.ensures.kept

pub returns : goal.returns
returns g c = record {
  grown = rows_end c.requires.0 _ c.loop-i-test.false c.loop-i.invariant;
  kept = c.loop-i.invariant.going.frame;
}
