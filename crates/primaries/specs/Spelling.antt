-- For private contracts alone: the list that is put together from the runs of a channel.
use Rattle.std.specs.Prelude.{◌≡◌, cond, List, [], map, ℕ, ltb, Option, Some, None}
use Rattle.zone.specs.declared.Zone.{Zone}
use Rattle.zone.specs.Zone.{run, diagonal}
use Rattle.list.specs.Insert.{insert_each}
use Rattle.runs.specs.declared.Run.{Run}
use Rattle.runs.specs.Runs.{Runs}
use Rattle.meaning.specs.Lists.{Value, ended}
use Rattle.primaries.specs.declared.Mark.{Mark}
use Rattle.primaries.specs.declared.Mark.TheVariants.{Inside, End}

-- what is put for a run: the zone of the stretches in it, or that of the moment when it ends, if it does before tick `to`
abbrev pub mark_of : Mark → ℕ → Run → Option Zone
mark_of Inside to r = Some (run r.start r.end)
mark_of End to r = cond (ltb r.end to) (Some (diagonal r.end r.end)) None

-- the maximal runs of P within from..to, put in rising time as their marks
pub record Spelling (mark : Mark) (P : ℕ → Type 0) (from to : ℕ) (v : Value) : Type 0 where
  pub runs : List Run
  pub maximal : Runs P from to runs
  pub built : v ≡ ended (insert_each (map (mark_of mark to) runs) [])
