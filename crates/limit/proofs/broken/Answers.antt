use Rattle.limit.proofs.Breaking.{broken_word, broken_means}
use Rattle.limit.specs.Limit.{decode}
use Rattle.limit.proofs.broken.Goals as goal

pub returns-clause-value : goal.returns-clause-value
returns-clause-value c = broken_word c.args.word c.ranges.word c.requires

pub returns-clause-meaning : goal.returns-clause-meaning
returns-clause-meaning c = broken_means (decode c.args.word) (returns-clause-value c)
