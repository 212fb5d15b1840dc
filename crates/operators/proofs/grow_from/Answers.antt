use Rattle.std.proofs.Common.{arith}
use Rattle.list.proofs.Puts.{held}
use Rattle.words.specs.Words.{zone_at}
use Rattle.operators.proofs.grow_from.Goals as goal

pub returns : goal.returns
returns c =
    record {
      grown = rw (held (zone_at c.args.words.now c.args.at) _ c.copy_zone.ensures (omega arith)) at c.grow_words.ensures.grown;
      kept = c.grow_words.ensures.kept;
    }
