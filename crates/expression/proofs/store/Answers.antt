-- `store` meets its contract: each of the four words stands in a place of its own, and all others are kept.
use Rattle.std.proofs.Common.{rules}
use Rattle.std.proofs.lemmas.List.{places}
use Rattle.expression.proofs.Nodes.{stores}
use Rattle.expression.proofs.store.Goals as goal

pub returns : goal.returns
returns c =
    let after = c.copy_from_slice.ensures.after in
    stores _ _ c.words_of.result _ c.words_of.ensures
    (search (rules, places, after)) (search (rules, places, after)) (search (rules, places, after)) (search (rules, places, after))
    (λ i h. search (rules, places)) (λ i h. search (rules, places))
