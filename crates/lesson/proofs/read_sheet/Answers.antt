-- The state sums up what was read so far.
use Rattle.std.proofs.Common.{[]}
use Rattle.lesson.proofs.read_sheet.Goals as goal

pub returns-in_default : goal.returns-in_default
returns-in_default g c = ([], c.begin-sheet.ensures _)

pub loop-init : goal.loop-init
loop-init g c = ([], c.begin-sheet.ensures _)

pub loop-preserved : goal.loop-preserved
loop-preserved g c = (_, c.take_in-sheet.ensures.sums c.loop.invariant.0 c.loop.invariant.1)

pub returns : goal.returns
returns g c = c.loop.invariant

pub returns-then-n-lt-CHUNK_BYTES : goal.returns-then-n-lt-CHUNK_BYTES
returns-then-n-lt-CHUNK_BYTES g c = (_, c.take_in-sheet.ensures.sums c.loop.invariant.0 c.loop.invariant.1)
