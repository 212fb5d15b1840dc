use Rattle.std.proofs.Common.{arith}
use Rattle.growing.proofs.Puts.{grown_as, grown_kept}
use Rattle.list.proofs.Puts.{held}
use Rattle.growing.proofs.grow.Goals as goal

pub write_zone-requires : goal.write_zone-requires
write_zone-requires c = (omega arith, c.requires.1)

pub returns : goal.returns
returns c =
    let z = c.args.z in
    let put = c.insert_words-answer in
    let is = held z _ c.write_zone.ensures (omega arith) in
    let a = rw is at put.ensures in record {
      grown = grown_as z _ _ _ c.args.g c.requires.0 put.result a c.after_put.result (rw is at c.after_put.ensures);
      kept = grown_kept z _ _ _ c.args.g c.requires.0 put.result a;
    }
