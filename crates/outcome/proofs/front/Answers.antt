-- `front` meets its contract.
use Rattle.std.proofs.Common.{refl, sym, arith, length-take-le}
use Rattle.outcome.proofs.Fronts.{front_filled, front_empty}
use Rattle.outcome.proofs.front.Goals as goal

pub slice_bounds-result-end : goal.slice_bounds-result-end
slice_bounds-result-end c = sym (length-take-le _ _ (omega arith))

pub returns-then-zones-answer : goal.returns-then-zones-answer
returns-then-zones-answer c = record {
  words = sym (front_filled _ _ (omega arith));
  place = refl;
}

pub returns-else-zones-answer : goal.returns-else-zones-answer
returns-else-zones-answer c = record {
  words = sym (front_empty _ _ (omega arith));
  place = refl;
}
