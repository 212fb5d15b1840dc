use Rattle.growing.proofs.Puts.{grown_as, grown_kept}
use Rattle.words.specs.Words.{zone_at}
use Rattle.growing.proofs.grow_apart.Goals as goal

pub insert_apart-answer-requires : goal.insert_apart-answer-requires
insert_apart-answer-requires c = (c.requires.0.slot, c.requires.1)

pub returns : goal.returns
returns c =
    let z = zone_at c.args.w.now 0 in
    let put = c.insert_apart-answer in record {
      grown = grown_as z _ _ _ c.args.g c.requires.0 put.result put.ensures c.after_put.result c.after_put.ensures;
      kept = grown_kept z _ _ _ c.args.g c.requires.0 put.result put.ensures;
    }
