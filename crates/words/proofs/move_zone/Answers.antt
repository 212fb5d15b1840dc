use Rattle.std.proofs.Common.{◌∙◌, rules}
use Rattle.words.proofs.Signed.{zone_kept}
use Rattle.words.proofs.move_zone.Goals as goal

pub returns : goal.returns
returns c =
    c.write_words.ensures ∙ zone_kept _ _ c.args.words.now c.args.from (search rules) (search rules) (search rules) (search rules) (search rules) (search rules)
