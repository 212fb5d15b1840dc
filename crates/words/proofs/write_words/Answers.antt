use Rattle.std.proofs.Common.{◌≡◌, ap, ◌∙◌, length, get_or, pos, rules}
use mir.Syntax.{w32}
use mir.Val.{SFits}
use Rattle.signed.proofs.Machine.{back}
use Rattle.words.proofs.Words.{six_stores, six_of}
use Rattle.words.specs.Words.{overwrite}
use Rattle.words.proofs.write_words.Goals as goal

pub returns : goal.returns
returns c =
    let w = c.args.w in
    let six : length w ≡ 6 = search rules in
    let f0 : SFits w32 (get_or w 0 (pos 0)) = search rules in
    let f1 : SFits w32 (get_or w 1 (pos 0)) = search rules in
    let f2 : SFits w32 (get_or w 2 (pos 0)) = search rules in
    let f3 : SFits w32 (get_or w 3 (pos 0)) = search rules in
    let f4 : SFits w32 (get_or w 4 (pos 0)) = search rules in
    let f5 : SFits w32 (get_or w 5 (pos 0)) = search rules in
    rw (back f0, back f1, back f2, back f3, back f4, back f5) (six_stores _ _ _ _ _ _ _ _ c.requires ∙ ap (overwrite c.args.words.now c.args.at) (six_of w six))
