use Rattle.std.proofs.Common.{arith}
use Rattle.std.proofs.lemmas.Result.{err_from_is_err_and}
use Rattle.absence.proofs.Alternating.{alternating_start, next_ready, alternating_kept, alternating_overflow, alternating_on, bring_ready, alternating_end}
use Rattle.absence.proofs.without_each.Goals as goal

pub overflow_add-first : goal.overflow_add-first
overflow_add-first c = omega (arith, c.requires.room)

pub overflow_add-there : goal.overflow_add-there
overflow_add-there c = omega (arith, c.requires.room)

pub loop-i-init : goal.loop-i-init
loop-i-init c = alternating_start c.requires

pub overflow_mul-i : goal.overflow_mul-i
overflow_mul-i c = omega (arith, c.requires.room, c.requires.list.few, c.loop-i-test.true)

pub overflow_add-base : goal.overflow_add-base
overflow_add-base c = omega (arith, c.requires.room, c.requires.list.few, c.loop-i-test.true)

pub without-requires : goal.without-requires
without-requires c = next_ready c.requires c.loop-i.invariant c.loop-i-test.true

pub returns-in_err-count : goal.returns-in_err-count
returns-in_err-count c =
    let p = err_from_is_err_and c.from_residual.result c.from_residual.ensures.1 in record {
      built = rw p.1 (alternating_overflow c.requires c.loop-i.invariant c.loop-i-test.true c.without.ensures.kept c.in_err-count.ensures.built);
      kept = alternating_kept c.requires c.loop-i.invariant c.loop-i-test.true c.without.ensures.kept;
    }

pub loop-i-preserved : goal.loop-i-preserved
loop-i-preserved c =
    rw (c.swap.ensures.x_after, c.swap.ensures.y_after) (alternating_on c.requires c.loop-i.invariant c.loop-i-test.true c.without.ensures.kept c.in_ok-count.ensures.built)

pub bring-requires : goal.bring-requires
bring-requires c = bring_ready c.requires c.loop-i.invariant

pub returns : goal.returns
returns c = let both = alternating_end c.requires c.loop-i.invariant (omega arith) c.bring.ensures.list c.bring.ensures.kept in record { built = both.0; kept = both.1 }
