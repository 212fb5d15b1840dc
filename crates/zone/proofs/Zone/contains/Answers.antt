use Rattle.std.proofs.Common.{◌&&◌}
use Rattle.zone.proofs.Means.{contains_means}
use Rattle.zone.proofs.Zone.contains.Goals as goal

pub returns-clause-value : goal.returns-clause-value
returns-clause-value c =
    let the-at-most = c.at_most in
    let the-at-most2 = c.at_most-2 in
    λ i. the-at-most.ensures i && the-at-most2.ensures i && c.at_most-3.ensures i && c.at_most-4.ensures i && c.at_most-5.ensures i && c.at_most-6.ensures i

pub returns-clause-meaning : goal.returns-clause-meaning
returns-clause-meaning c =
    let z = c.args.self in
    let w = c.args.other in
    contains_means z w (returns-clause-value c)
