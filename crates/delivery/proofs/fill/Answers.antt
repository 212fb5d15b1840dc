-- `fill` meets its contract: the words of the first slot's zones are those that hold it.
use Rattle.std.proofs.Common.{◌*◌, ◌++◌, ap, drop, length-take-le, arith, ℤ, List}
use Rattle.words.specs.Words.{zone_words}
use Rattle.delivery.specs.Buffers.{fronted}
use Rattle.delivery.proofs.Buffers.{words_at}
use Rattle.delivery.proofs.fill.Goals as goal

pub returns : goal.returns
unfolding fronted
returns c = rw (words_at c.args.work.now 0 c.args.count (omega arith), length-take-le (c.args.count * zone_words) c.args.work.now (omega arith)) (ap (λ (l : List ℤ). l ++ drop (c.args.count * zone_words) c.args.answer.now) c.copy_from_slice.ensures.after)
