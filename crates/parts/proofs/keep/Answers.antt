use Rattle.std.proofs.Common.{sym, ap, ◌∙◌, rules}
use Rattle.limit.specs.Limit.{decode}
use Rattle.parts.proofs.Limits.{keeping_keeps}
use Rattle.parts.proofs.Words.{limit_at, limited_at}
use Rattle.parts.specs.Parts.{side, also}
use Rattle.signed.proofs.Machine.{back}
use Rattle.words.specs.Words.{word, zone_at}
use Rattle.parts.proofs.keep.Goals as goal

pub returns-clause-value : goal.returns-clause-value
returns-clause-value c =
    let rest = c.args.rest.now in
    let cut = c.args.cut.now in
    let k = c.args.k in
    limited_at rest k c.requires.0 (decode (word cut k)) c.requires.3
    (back (search rules) ∙ rw (back {z = word rest k} (record { sfits = c.lesser-arg-1.given }), back {z = word cut k} (record { sfits = c.lesser-arg-2-1.given })) at c.lesser.ensures)
    ∙ ap (also (zone_at rest 0) (side k)) (sym (limit_at cut k c.requires.0))

pub returns-clause-meaning : goal.returns-clause-meaning
returns-clause-meaning c =
    let rest = c.args.rest.now in
    let cut = c.args.cut.now in
    let k = c.args.k in
    keeping_keeps (zone_at rest 0) (zone_at cut 0) (side k) c.requires.1 c.requires.2 (returns-clause-value c)
