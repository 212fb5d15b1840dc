use Rattle.std.proofs.Common.{refl, sym, subst}
use Rattle.std.proofs.lemmas.Result.{err_from_is_err_and}
use Rattle.list.proofs.Coverage.{outside_all, apart_new}
use Rattle.list.proofs.Puts.{Stays, put_last, no_place, holds_same}
use Rattle.list.proofs.Slots.{kept_refl}
use Rattle.list.specs.Slots.{list_at, Holds}
use Rattle.words.specs.Words.{zone_at}
use Rattle.list.proofs.insert_apart.Goals as goal
use Rattle.list.proofs.insert_apart.Goals.{After-append}

all_stay : (c : After-append) → Stays (zone_at c.args.w.now 0) c.args.words.now c.args.base c.args.count c.args.words.now c.args.count
all_stay c =
    let z = zone_at c.args.w.now 0 in
    let ws = c.args.words.now in
    let base = c.args.base in
    let n = c.args.count in
    let apart = c.requires.1 in record {
      new = apart_new z (list_at ws base n) apart;
      left = subst (Holds ws base n) (sym (outside_all z (list_at ws base n) (λ y m. (apart y m).1))) (holds_same ws base n c.requires.0.few);
      kept = kept_refl _ _ _;
      same = λ _. refl;
    }

pub returns-in_err-placed : goal.returns-in_err-placed
returns-in_err-placed c = let p = err_from_is_err_and c.from_residual.result c.from_residual.ensures.1 in rw p.1 (no_place (all_stay (goal.at.returns-in_err-placed c).After-append) c.in_err-placed.ensures)

pub returns : goal.returns
returns c = put_last (all_stay (goal.at.returns c).After-append) c.requires.0.room c.in_ok-placed.ensures
