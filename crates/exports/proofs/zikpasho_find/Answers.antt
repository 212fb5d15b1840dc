-- The promises of `finder::find`, in a number and two counts; or no call.
use Rattle.std.proofs.Common.{refl, ap, ◌∙◌, ◌∷◌, arith, drop}
use Rattle.outcome.specs.declared.Returned.{Returned}
use Rattle.exports.proofs.zikpasho_find.Goals as goal

pub returns-then-counts-lt2 : goal.returns-then-counts-lt2
returns-then-counts-lt2 c = record {
  call = λ h. absurd (omega (arith, c.if-counts-lt2.true));
  none = λ h. record { number_is = refl; answer_kept = refl; work_kept = refl; counts_kept = refl };
}

pub returns : goal.returns
returns c = record {
  call = λ h. record { outcome = c.find.result; number_is = c.report.ensures.number ∙ ap (λ (r : Returned). r.number) c.from-told.ensures; counts_are = c.report.ensures.counts ∙ ap (λ (r : Returned). r.zones ∷ r.rounds ∷ drop 2 c.args.counts.now) c.from-told.ensures; demand1 = c.find.ensures.demand1; demand2 = c.find.ensures.demand2; demand3 = c.find.ensures.demand3 };
  none = λ h. absurd (omega (arith, c.if-counts-lt2.false));
}
