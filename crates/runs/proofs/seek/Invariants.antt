use Rattle.runs.proofs.Scan.{Seeking}
use Rattle.runs.proofs.seek.Given as goal

abbrev pub invariant-loop-i : goal.invariant-loop-i
invariant-loop-i l = Seeking l.recording.bytes.now l.channel l.level l.from l.to l.j l.wanted l.i
