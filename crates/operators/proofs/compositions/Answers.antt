use Rattle.std.proofs.lemmas.Result.{err_from_is_err_and}
use Rattle.growing.proofs.Going.{begun_pairs}
use Rattle.operators.proofs.Listings.{begun_listing, begun_overflow, begun_operands}
use Rattle.operators.specs.Operators.{compositions}
use Rattle.operators.proofs.compositions.Goals as goal

pub each_pair-requires : goal.each_pair-requires
each_pair-requires c = begun_operands c.requires c.nothing-empty.ensures

pub returns-in_err-g-clause-composed : goal.returns-in_err-g-clause-composed
unfolding compositions
returns-in_err-g-clause-composed c =
    let p = err_from_is_err_and c.from_residual.result c.from_residual.ensures.1 in
    rw p.1 (begun_overflow _ _ _ c.nothing-empty.ensures c.in_err-g.ensures.grown)

pub returns : goal.returns
unfolding compositions
returns c =
    let grown = c.in_ok-g.ensures.grown in record {
      composed = (begun_listing _ _ _ c.nothing-empty.ensures grown, begun_pairs c.nothing-empty.ensures grown);
      kept = c.in_ok-g.ensures.kept;
    }
