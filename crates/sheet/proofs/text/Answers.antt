-- `sheet::text`: words that are missing, or a sheet from the front.
use Rattle.std.proofs.Common.{refl, sym, rules, ◌∙◌, ◌*◌, ◌<◌, ◌≤◌, length, arith}
use Rattle.outcome.specs.Outcome.{returned}
use Rattle.sheet.proofs.Sheet.{told, told_short}
use Rattle.text.proofs.Buffer.{from_begin}
use Rattle.sheet.proofs.text.Goals as goal

pub returns-then-front-told : goal.returns-then-front-told
returns-then-front-told c =
    let r = returned c.args.outcome in
    let front = c.args.front.now in
    let few : length front < r.zones * 6 = rw (sym c.from-told.ensures) (omega arith) in
    let both = told_short r front {out = c.args.out.now} few in
    record { answer = both.0; out = both.1 }

pub append-requires : goal.append-requires
append-requires c = rw (sym c.from-told.ensures) (omega (arith, c.if-front-told.false))

pub returns : goal.returns
returns c =
    let r = returned c.args.outcome in
    let front = c.args.front.now in
    let enough : r.zones * 6 ≤ length front = rw (sym c.from-told.ensures) (omega (arith, c.if-front-told.false)) in
    let both = told r front enough (from_begin c.begin-text.ensures.begins c.append.ensures refl) in
    record { answer = c.ok_or.ensures.value ∙ both.0; out = search rules ∙ both.1 }
