-- `deliver` meets its contract: a list is delivered exactly where its words have room, and its rounds are spent.
use Rattle.std.proofs.Common.{◌*◌, ◌≤◌, ◌<◌, arith, length, le-leb}
use Rattle.words.specs.Words.{zone_words}
use borrow.Author.Tests.{lt-leb}
use Rattle.delivery.proofs.deliver.Goals as goal

pub overflow_sub-rounds : goal.overflow_sub-rounds
overflow_sub-rounds c = (rw c.in-Ok.is at c.requires).1

pub returns-then-answer-list : goal.returns-then-answer-list
returns-then-answer-list c =
    let short : length c.args.answer.now < c.in-Ok.list.count * zone_words = omega (arith, c.if-answer-list.true) in
    (rw (c.in-Ok.is, lt-leb _ _ short), rw c.in-Ok.is, rw (c.in-Ok.is, lt-leb _ _ short))

pub fill-requires : goal.fill-requires
fill-requires c =
    ((rw c.in-Ok.is at c.requires).0, omega (arith, c.if-answer-list.false))

pub returns-else-answer-list : goal.returns-else-answer-list
returns-else-answer-list c =
    let fits : c.in-Ok.list.count * zone_words ≤ length c.args.answer.now = omega (arith, c.if-answer-list.false) in
    (rw (c.in-Ok.is, le-leb _ _ fits), rw c.in-Ok.is, rw (c.in-Ok.is, le-leb _ _ fits) c.fill.ensures)
