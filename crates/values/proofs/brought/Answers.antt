-- `brought` meets its contract: the list is copied, or the answer is returned as it came.
use Rattle.std.proofs.Common.{refl, inr}
use Rattle.std.proofs.lemmas.Result.{err_from_is_err_and}
use Rattle.list.proofs.Slots.{kept_refl}
use Rattle.values.proofs.brought.Goals as goal

pub returns-in_err-listed : goal.returns-in_err-listed
returns-in_err-listed c =
    let p = err_from_is_err_and c.from_residual.result c.from_residual.ensures.1 in record {
      brought = rw (c.in_err-listed.was, p.1, p.2) refl;
      kept = kept_refl _ _ _;
    }

pub bring-requires : goal.bring-requires
bring-requires c = (rw c.in_ok-listed.was at c.requires.0, c.requires.1, c.requires.2, inr c.requires.3)

pub returns : goal.returns
returns c = record {
  brought = rw c.in_ok-listed.was (refl, c.bring.ensures.list);
  kept = c.bring.ensures.kept;
}
