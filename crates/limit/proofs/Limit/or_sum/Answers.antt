use Rattle.std.proofs.Common.{◌∙◌, rules}
use Rattle.limit.proofs.Signed.{or_sum_kept}
use Rattle.limit.proofs.Limit.or_sum.Goals as goal

pub returns : goal.returns
returns c =
    c.from.ensures ∙ or_sum_kept c.args.self c.args.a c.args.b (search rules) (search rules) (search rules) (search rules) c.word.ensures c.word-2.ensures c.word-3.ensures c.or_sum.ensures
