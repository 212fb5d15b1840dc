-- The promises of `finder::find_within`, in a number, a place for the rounds left and two counts; or no call.
use Rattle.std.proofs.Common.{refl, ap, ◌∙◌, ◌∷◌, arith, drop}
use Rattle.outcome.specs.declared.Returned.{Returned}
use Rattle.exports.proofs.zikpasho_within.Goals as goal

pub returns-then-counts-lt2 : goal.returns-then-counts-lt2
returns-then-counts-lt2 c = record {
  call = λ h. absurd (omega (arith, c.if-counts-lt2.true));
  none = λ h. record { uncalled = record { number_is = refl; answer_kept = refl; work_kept = refl; counts_kept = refl }; left_kept = refl };
}

pub returns : goal.returns
returns c = record {
  call = λ h. record { outcome = c.find_within.result; number_is = c.report.ensures.number ∙ ap (λ (r : Returned). r.number) c.from-got.ensures; counts_are = c.report.ensures.counts ∙ ap (λ (r : Returned). r.zones ∷ r.rounds ∷ drop 2 c.args.counts.now) c.from-got.ensures; demand1 = c.find_within.ensures.demand1; demand2 = c.find_within.ensures.demand2; demand3 = c.find_within.ensures.demand3 };
  none = λ h. absurd (omega (arith, c.if-counts-lt2.false));
}
