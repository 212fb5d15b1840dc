use Rattle.std.proofs.Common.{sym}
use Rattle.limit.proofs.Coding.{code_decode}
use Rattle.limit.proofs.Signed.{room_is}
use Rattle.limit.specs.Limit.{decode}
use Rattle.limit.proofs.room.Goals as goal

pub returns : goal.returns
returns c = room_is (decode c.args.negated) c.ranges.negated (sym (code_decode c.args.negated)) c.requires (decode c.args.word) c.ranges.word (sym (code_decode c.args.word))
