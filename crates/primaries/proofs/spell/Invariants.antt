use Rattle.std.proofs.Common.{◌-◌}
use Rattle.primaries.proofs.Spelling.{Spelt}
use Rattle.runs.specs.Scan.{position}
use Rattle.primaries.proofs.spell.Given as goal

abbrev pub invariant-loop-run : goal.invariant-loop-run
invariant-loop-run l = Spelt l.window.recording.bytes.now l.channel l.level l.mark l.window.from l.window.to l.cursor l.base l.initial.work l.work l.grown

abbrev pub decreases-loop-run : goal.decreases-loop-run
decreases-loop-run l = l.window.to - position l.window.recording.bytes.now l.window.from l.window.to l.cursor
