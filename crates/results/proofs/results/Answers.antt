-- `results` meets its contract. The loop keeps the results of the drills before k, and all rounds for drill k.
use Rattle.std.proofs.Common.{refl, ◌∙◌, [], arith, get_or}
use Rattle.lines.proofs.Lined.{at_mem}
use Rattle.results.proofs.Printing.{printed_none, printed_more}
use Rattle.results.proofs.results.Goals as goal

pub loop-k-init : goal.loop-k-init
loop-k-init c = record { all_rounds = refl; same = refl; printed = λ drills e s p. printed_none drills c.begin-text.ensures.begins }

pub loop-k-preserved : goal.loop-k-preserved
loop-k-preserved c =
    let k = c.loop-k.k in
    let before = c.loop-k.invariant in record {
      all_rounds = refl;
      same = c.result.ensures.puts.same ∙ before.same;
      printed = λ drills e s p. printed_more drills k (omega arith) (c.line-drill.ensures (get_or drills k []) (p _ (at_mem drills k [] (omega arith))) (s k (omega arith) (omega arith))) (before.printed drills e s p) (rw before.all_rounds at c.result.ensures);
    }
