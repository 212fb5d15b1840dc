-- Where the starts differ, they rule out one way of lying inside.
use Rattle.std.proofs.Common.{refl, sym, ◌∙◌}
use Rattle.nesting.proofs.Nestings.{nested_by}
use Rattle.nesting.proofs.Steps.{starts_decide}
use Rattle.words.specs.Words.{zone_at}
use Rattle.nesting.proofs.nested.Goals as goal

pub returns-then-included : goal.returns-then-included
unfolding zone_at
returns-then-included c =
    let both = nested_by (zone_at c.args.a.now c.args.i) (zone_at c.args.b.now c.args.j) (starts_decide (zone_at c.args.b.now c.args.j) (zone_at c.args.a.now c.args.i) (sym c.word_at_most.ensures ∙ c.if-not-word_at_most.true)) (sym c.if-included.true ∙ c.included.ensures.value) in record { value = both.0; meaning = both.1 }

pub returns-then-not-word_at_most : goal.returns-then-not-word_at_most
unfolding zone_at
returns-then-not-word_at_most c =
    let both = nested_by (zone_at c.args.a.now c.args.i) (zone_at c.args.b.now c.args.j) (starts_decide (zone_at c.args.b.now c.args.j) (zone_at c.args.a.now c.args.i) (sym c.word_at_most.ensures ∙ c.if-not-word_at_most.true)) (sym c.if-included.false ∙ c.included.ensures.value) in record { value = both.0; meaning = both.1 }

pub returns-then-included-2 : goal.returns-then-included-2
returns-then-included-2 c = let both = nested_by (zone_at c.args.a.now c.args.i) (zone_at c.args.b.now c.args.j) (sym c.if-included-2.true ∙ c.included-then-not-word_at_most-2.ensures.value) refl in record { value = both.0; meaning = both.1 }

pub returns-then-not-word_at_most-2 : goal.returns-then-not-word_at_most-2
unfolding zone_at
returns-then-not-word_at_most-2 c =
    let both = nested_by (zone_at c.args.a.now c.args.i) (zone_at c.args.b.now c.args.j) (sym c.if-included-2.false ∙ c.included-then-not-word_at_most-2.ensures.value) (starts_decide (zone_at c.args.a.now c.args.i) (zone_at c.args.b.now c.args.j) (sym c.word_at_most-2.ensures ∙ c.if-not-word_at_most-2.true)) in record { value = both.0; meaning = both.1 }

pub returns-then-included-3 : goal.returns-then-included-3
returns-then-included-3 c = let both = nested_by (zone_at c.args.a.now c.args.i) (zone_at c.args.b.now c.args.j) (sym c.if-included-3.true ∙ c.included-2.ensures.value) refl in record { value = both.0; meaning = both.1 }

pub returns-then-included-4 : goal.returns-then-included-4
returns-then-included-4 c = let both = nested_by (zone_at c.args.a.now c.args.i) (zone_at c.args.b.now c.args.j) (sym c.if-included-3.false ∙ c.included-2.ensures.value) (sym c.if-included-4.true ∙ c.included-3.ensures.value) in record { value = both.0; meaning = both.1 }

pub returns : goal.returns
returns c = let both = nested_by (zone_at c.args.a.now c.args.i) (zone_at c.args.b.now c.args.j) (sym c.if-included-3.false ∙ c.included-2.ensures.value) (sym c.if-included-4.false ∙ c.included-3.ensures.value) in record { value = both.0; meaning = both.1 }
