-- The loop keeps `Seeking`; behind the last change the search is over.
use Rattle.std.proofs.Common.{◌≡◌, Bool, false, ◌||◌, ℕ, ◌<◌, arith, leb, ltb}
use Rattle.recording.proofs.Refusals.{above_is, read_count}
use Rattle.recording.specs.Changes.{begins}
use Rattle.runs.proofs.Scan.{seek_on, seek_end}
use Rattle.runs.proofs.seek.Goals as goal
use Rattle.runs.proofs.seek.Goals.{else-leaves_at-wanted-via-then-leaves_at-wanted+else-reaches, else-leaves_at-wanted-via-else-leaves_at-wanted}

-- a change that does not reach has no tick
unreached : {t : Bool} (x to m n : ℕ) → t ≡ (leb to x || ltb m n) → t ≡ false → m < n → ⊥
unreached x to m n e f h =
    let q = (above_is x to m n).1 (λ _. h) in
    let z : ◌≡◌ {A = ℕ} 0 1 = cc in
    omega arith

pub loop-i-preserved : goal.loop-i-preserved
loop-i-preserved c =
    seek_on c.args.recording.recorded c.loop-i.invariant
    (λ h. elim c.else-leaves_at-wanted.branch [
      | else-leaves_at-wanted-via-then-leaves_at-wanted+else-reaches w ↦ absurd (unreached (begins c.args.recording.bytes.now c.loop-i.i) c.args.to _ _ w.reaches.ensures w.if-reaches.false h)
      | else-leaves_at-wanted-via-else-leaves_at-wanted w ↦ rw (← c.leaves_at.ensures) w.if-leaves_at-wanted.false
    ])

pub returns : goal.returns
returns c =
    let r = c.args.recording.recorded in
    seek_end r c.loop-i.invariant c.requires (omega (arith, c.loop-i-test.false, read_count r)) (omega (arith, c.max.ensures)) (omega (arith, c.max.ensures, read_count r))
