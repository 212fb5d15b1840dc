use Rattle.growing.proofs.Puts.{grown_as, grown_kept}
use Rattle.words.specs.Words.{zone_at}
use Rattle.growing.proofs.grow_words.Goals as goal

pub returns : goal.returns
returns c =
    let z = zone_at c.args.w.now 0 in
    let put = c.put-answer in record {
      grown = grown_as z _ _ _ c.args.g c.requires put.result put.ensures c.after_put.result c.after_put.ensures;
      kept = grown_kept z _ _ _ c.args.g c.requires put.result put.ensures;
    }
