use Rattle.std.proofs.Common.{◌∙◌, rules}
use Rattle.limit.proofs.Signed.{both_kept}
use Rattle.limit.specs.Limit.{◌⊕◌}
use Rattle.limit.proofs.Limit.plus.Goals as goal

pub returns : goal.returns
returns c = c.from.ensures ∙ both_kept ◌⊕◌ c.args.self c.args.other (search rules) (search rules) (search rules) c.word.ensures c.word-2.ensures c.sum.ensures
