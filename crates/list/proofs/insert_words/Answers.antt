-- `insert_words` meets its contract: the look decides whether the zone is turned away, and which zones give way to it.
use Rattle.std.proofs.Common.{refl, arith}
use Rattle.std.proofs.lemmas.Result.{err_from_is_err_and}
use Rattle.list.proofs.Puts.{insert_away, Stays, stay_slot, put_last, no_place}
use Rattle.list.proofs.Scan.{sifted, yields_fewer, all_stay, closed, closed_kept}
use Rattle.list.proofs.Slots.{kept_refl}
use Rattle.words.specs.Words.{zone_at}
use Rattle.list.proofs.insert_words.Goals as goal
use Rattle.list.proofs.insert_words.Goals.{Joined-look_over, in-Apart, in-One, in-Several}

-- the zones that stay, in the three ways of a put
staying : (c : Joined-look_over) → Stays (zone_at c.args.w.now 0) c.args.words.now c.args.base c.args.count c.match-look_over.words c.match-look_over.stay
staying c =
    elim c.match-look_over.branch [
      | in-Apart w ↦
          let l = w.in-Apart.ensures in
          rw (w.words-is, w.stay-is) (record { new = l.new; left = all_stay l c.requires.few; kept = kept_refl _ _ _; same = λ _. refl })
      | in-One w ↦
          let a = w.in-One.ensures in
          let copied = w.close_gap.ensures in
          rw (w.words-is, w.stay-is)
          (record { new = a.yields.clear.new; left = closed a c.requires.few copied; kept = closed_kept a c.requires.few copied; same = λ h. absurd (omega (arith, a.yields.some, c.requires.few)) })
      | in-Several w ↦
          let l = w.in-Several.ensures in
          let removed = w.remove_inside-stay.ensures in
          rw (w.words-is, w.stay-is)
          (record { new = l.clear.new; left = removed.left; kept = removed.kept; same = λ h. absurd (omega (arith, yields_fewer l c.requires.few, removed.left.count, c.requires.few)) })
    ]

pub returns-in-Held : goal.returns-in-Held
returns-in-Held c = (insert_away _ _ c.in-Held.ensures, refl)

pub remove_inside-stay-requires : goal.remove_inside-stay-requires
remove_inside-stay-requires c = (c.requires, sifted c.in-Several.ensures.clear)

pub append-requires : goal.append-requires
append-requires c = stay_slot (staying (goal.at.append-requires c).Joined-look_over) c.requires

pub returns-in_err-placed : goal.returns-in_err-placed
returns-in_err-placed c = let p = err_from_is_err_and c.from_residual.result c.from_residual.ensures.1 in rw p.1 (no_place (staying (goal.at.returns-in_err-placed c).Joined-look_over) c.in_err-placed.ensures)

pub returns : goal.returns
returns c = put_last (staying (goal.at.returns c).Joined-look_over) c.requires.room c.in_ok-placed.ensures
