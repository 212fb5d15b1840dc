use Rattle.std.proofs.Common.{refl, arith}
use Rattle.std.proofs.lemmas.Result.{err_from_is_err_and}
use Rattle.absence.proofs.Cutting.{replacing_start, replacing_there, replacing_growable, replacing_proper, replacing_on, replacing_overflow, replacing_end}
use Rattle.absence.proofs.put_each.Goals as goal

pub loop-i-init : goal.loop-i-init
loop-i-init c = replacing_start _ _ _ _ _ _ c.requires.1

pub overflow_mul-i : goal.overflow_mul-i
overflow_mul-i c = omega (arith, replacing_there c.loop-i.invariant c.requires.0 c.loop-i-test.true)

pub overflow_add-source : goal.overflow_add-source
overflow_add-source c = omega (arith, replacing_there c.loop-i.invariant c.requires.0 c.loop-i-test.true)

pub put_parts-requires : goal.put_parts-requires
put_parts-requires c =
    (replacing_there c.loop-i.invariant c.requires.0 c.loop-i-test.true, replacing_growable c.loop-i.invariant c.requires.0 c.loop-i-test.true refl, replacing_proper c.loop-i.invariant c.requires.0 c.loop-i-test.true refl, c.requires.2)

pub returns-in_err-grown-clause-grown : goal.returns-in_err-grown-clause-grown
returns-in_err-grown-clause-grown c =
    let p = err_from_is_err_and c.from_residual.result c.from_residual.ensures.1 in
    rw p.1 (replacing_overflow c.loop-i.invariant c.requires.0 c.loop-i-test.true refl c.in_err-grown.ensures.grown)

pub loop-i-preserved : goal.loop-i-preserved
loop-i-preserved c = replacing_on c.loop-i.invariant c.requires.0 c.loop-i-test.true refl c.in_ok-grown.ensures.grown c.in_ok-grown.ensures.kept

pub returns : goal.returns
returns c = record {
  grown = replacing_end c.loop-i.invariant (omega arith);
  kept = c.loop-i.invariant.going.frame;
}
