use Rattle.std.proofs.Common.{ap, ◌∙◌, arith}
use Rattle.limit.proofs.Order.{⊕-comm}
use Rattle.limit.specs.Limit.{lesser, ◌⊕◌}
use Rattle.limit.specs.declared.Limit.{Limit}
use Rattle.zone.proofs.Ranges.{small_sum}
use Rattle.zone.specs.Zone.{across}
use Rattle.zone.proofs.Zone.across.Goals as goal

pub or_sum-requires-5 : goal.or_sum-requires-5
or_sum-requires-5 c =
    (rw c.plus.ensures (omega (arith, small_sum c.args.other.length c.args.self.length c.requires.1.length c.requires.0.length)), omega (arith, c.requires.1.end), omega (arith, c.requires.0.nstart))

pub or_sum-requires-6 : goal.or_sum-requires-6
or_sum-requires-6 c = (rw c.plus-2.ensures (omega (arith, small_sum c.args.other.nlength c.args.self.nlength c.requires.1.nlength c.requires.0.nlength)), omega (arith, c.requires.1.nend), omega (arith, c.requires.0.start))

pub returns : goal.returns
unfolding across
returns c =
    let z = c.args.self in
    let w = c.args.other in
    let s = c.or_sum.ensures ∙ ap (lesser z.start) (⊕-comm w.start z.nlength) in
    let ne = c.or_sum-4.ensures ∙ ap (lesser w.nend) (⊕-comm w.nlength z.nend) in
    let l = c.or_sum-5.ensures ∙ ap (λ (m : Limit). lesser m (w.end ⊕ z.nstart)) c.plus.ensures in
    let nl = c.or_sum-6.ensures ∙ ap (λ (m : Limit). lesser m (w.nend ⊕ z.start)) (c.plus-2.ensures ∙ ⊕-comm w.nlength z.nlength) ∙ ap (lesser (z.nlength ⊕ w.nlength)) (⊕-comm w.nend z.start) in
    λ i. record { start = s i; nstart = c.or_sum-2.ensures i; end = c.or_sum-3.ensures i; nend = ne i; length = l i; nlength = nl i }
