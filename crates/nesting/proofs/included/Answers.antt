use Rattle.std.proofs.Common.{sym, ◌∙◌}
use Rattle.limit.specs.Limit.{at_most}
use Rattle.nesting.proofs.Steps.{fails_here, fails_before, starts_decide, lengths_decide, ends_decide}
use Rattle.words.specs.Words.{zone_at}
use Rattle.zone.proofs.Means.{contains_means}
use Rattle.nesting.proofs.included.Goals as goal

pub returns-then-not-word_at_most-clause-value : goal.returns-then-not-word_at_most-clause-value
unfolding zone_at
returns-then-not-word_at_most-clause-value c =
    let z = zone_at c.args.outer.now c.args.j in
    let w = zone_at c.args.inner.now c.args.i in
    starts_decide z w (sym c.word_at_most.ensures ∙ c.if-not-word_at_most.true)

pub returns-then-not-word_at_most-clause-meaning : goal.returns-then-not-word_at_most-clause-meaning
unfolding zone_at
returns-then-not-word_at_most-clause-meaning c =
    let z = zone_at c.args.outer.now c.args.j in
    let w = zone_at c.args.inner.now c.args.i in
    contains_means z w (returns-then-not-word_at_most-clause-value c)

pub returns-then-not-word_at_most-2-clause-value : goal.returns-then-not-word_at_most-2-clause-value
unfolding zone_at
returns-then-not-word_at_most-2-clause-value c =
    let z = zone_at c.args.outer.now c.args.j in
    let w = zone_at c.args.inner.now c.args.i in
    fails_before (at_most w.nlength z.nlength) (fails_before (at_most w.length z.length) (fails_before (at_most w.nend z.nend) (fails_before (at_most w.end z.end) (fails_here (at_most w.start z.start) (sym c.word_at_most-2.ensures ∙ c.if-not-word_at_most-2.true)))))

pub returns-then-not-word_at_most-2-clause-meaning : goal.returns-then-not-word_at_most-2-clause-meaning
unfolding zone_at
returns-then-not-word_at_most-2-clause-meaning c =
    let z = zone_at c.args.outer.now c.args.j in
    let w = zone_at c.args.inner.now c.args.i in
    contains_means z w (returns-then-not-word_at_most-2-clause-value c)

pub returns-then-not-shorter-longer-clause-value : goal.returns-then-not-shorter-longer-clause-value
unfolding zone_at
returns-then-not-shorter-longer-clause-value c =
    let z = zone_at c.args.outer.now c.args.j in
    let w = zone_at c.args.inner.now c.args.i in
    lengths_decide z w c.word_at_most-shorter.ensures c.word_at_most-longer.ensures c.if-not-shorter-longer.true

pub returns-then-not-shorter-longer-clause-meaning : goal.returns-then-not-shorter-longer-clause-meaning
unfolding zone_at
returns-then-not-shorter-longer-clause-meaning c =
    let z = zone_at c.args.outer.now c.args.j in
    let w = zone_at c.args.inner.now c.args.i in
    contains_means z w (returns-then-not-shorter-longer-clause-value c)

pub returns-clause-value : goal.returns-clause-value
unfolding zone_at
returns-clause-value c =
    let z = zone_at c.args.outer.now c.args.j in
    let w = zone_at c.args.inner.now c.args.i in
    ends_decide z w (sym c.word_at_most.ensures ∙ c.if-not-word_at_most.false) (sym c.word_at_most-2.ensures ∙ c.if-not-word_at_most-2.false) c.word_at_most-shorter.ensures c.word_at_most-longer.ensures c.if-not-shorter-longer.false c.word_at_most-3.ensures c.word_at_most-4.ensures

pub returns-clause-meaning : goal.returns-clause-meaning
unfolding zone_at
returns-clause-meaning c =
    let z = zone_at c.args.outer.now c.args.j in
    let w = zone_at c.args.inner.now c.args.i in
    contains_means z w (returns-clause-value c)
