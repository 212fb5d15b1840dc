use Rattle.std.proofs.Common.{◌∙◌, rules}
use Rattle.limit.proofs.Signed.{both_kept}
use Rattle.limit.specs.Limit.{lesser}
use Rattle.limit.proofs.Limit.lesser.Goals as goal

pub returns : goal.returns
returns c = c.from.ensures ∙ both_kept lesser c.args.self c.args.other (search rules) (search rules) (search rules) c.word.ensures c.word-2.ensures c.lesser.ensures
