-- `absent` meets its contract: what the list comes to, with no round spent.
use Rattle.std.proofs.Common.{arith}
use Rattle.values.proofs.Standings.{built_value}
use Rattle.values.proofs.absent.Goals as goal

pub absent-requires : goal.absent-requires
absent-requires c =
    (record { few = c.requires.few; room = omega (arith, c.requires.room); sound = c.requires.sound }, omega (arith, c.requires.room))

pub returns : goal.returns
returns c = record {
  value = rw c.unspent.ensures (built_value _ _ _ c.args.left c.absent.result c.absent.ensures.built);
  kept = c.absent.ensures.kept;
}
