-- The list of a letter with its sign, put together run by run.
use Rattle.std.specs.Prelude.{Option, Some, None, Result}
use mathlib.Core.Path.{◌≡◌, refl, sym, ap, subst, ◌∙◌}
use mathlib.Core.Bool.{Bool, true, false, cond}
use mathlib.Core.List.{List, [], ◌∷◌, ◌++◌, map, map-append}
use Prim.Native.Nat.{ℕ, ◌+◌, ◌-◌, ◌≤◌, min}
use native.Mathlib.Omega.{arith}
use lib.Dec.{ltb}
use lib.IntN.{ℤ}
use lib.ListN.{length}
use Rattle.zone.specs.declared.Zone.{Zone}
use Rattle.zone.specs.Zone.{Ranged, diagonal}
use Rattle.zone.proofs.Laws.{proper_run, proper_diagonal, ranged, ranged_more}
use Rattle.list.specs.Insert as puts
use Rattle.list.specs.Insert.{Built, listed, insert, after, insert_each, then}
use Rattle.list.specs.Slots.{slot_words, list_at, Kept}
use Rattle.growing.specs.declared.Growing.{Growing}
use Rattle.growing.specs.Growth.{Stands, Begins, NoPair, Growth}
use Rattle.growing.proofs.Loops.{insert_each_append}
use Rattle.growing.proofs.Going.{begun_stands, grown_stands}
use Rattle.list.proofs.Puts.{holds_same}
use Rattle.list.proofs.Slots.{kept_refl, kept_trans}
use Rattle.recording.specs.Reading.{ticks}
use Rattle.runs.specs.declared.Level.{Level}
use Rattle.runs.specs.declared.Run.{Run}
use Rattle.runs.specs.declared.Cursor.{Cursor}
use Rattle.runs.specs.Levels.{Shows}
use Rattle.runs.specs.Search.{other}
use Rattle.runs.specs.Runs.{Runs, FirstRun}
use Rattle.runs.specs.Scan.{NextRun}
use Rattle.runs.proofs.Runs.{scanned_first}
use Rattle.runs.proofs.Handed.{Taken, taken_none, taken_more, taken_all, shows_runs}
use Rattle.runs.proofs.Events.{ends_before, shows_events}
use Rattle.meaning.specs.Lists.{Value, overflow, ended, Letter, moment_zones, Moments}
use Rattle.purse.specs.Purse.{Standing, Overflowed, EvaluatedAs}
use Rattle.purse.specs.declared.Listed.{Listed}
use Rattle.purse.specs.declared.Stopped.{Stopped}
use Rattle.values.proofs.Standings.{evaluated_map}
use Rattle.primaries.specs.declared.Mark.{Mark}
use Rattle.primaries.specs.declared.Mark.TheVariants.{Inside, End}
use Rattle.primaries.specs.Spelling.{mark_of, Spelling}

-- ---- the loop

module _ (bytes : List ℕ) (channel : ℕ) (level : Level) (mark : Mark) (from to : ℕ) where
  -- `runs` were found up to the cursor, and the slot holds the list that they make
  pub record Spelt (cursor : Cursor) (base : ℕ) (ws₀ ws : List ℤ) (g : Growing) : Type 0 where
    pub runs : List Run
    pub taken : Taken bytes channel level from to cursor runs
    pub built : insert_each (map (mark_of mark to) runs) [] ≡ listed (list_at ws base g.count)
    pub stands : Stands ws base g
    pub frame : Kept base slot_words ws₀ ws

  pub spelt_none : (base : ℕ) (ws : List ℤ) (g : Growing) → Begins 0 g → base + slot_words ≤ length ws → Spelt (record { change = 0 }) base ws ws g
  unfolding insert_each list_at
  spelt_none base ws g b room =
      record {
        runs = [];
        taken = taken_none bytes channel level from to;
        built = ap (λ (n : ℕ). listed (list_at ws base n)) (sym b.count);
        stands = begun_stands b (record { few = omega arith; room = room });
        frame = kept_refl base slot_words ws;
      }

  module _ {cursor : Cursor} {base : ℕ} {ws₀ ws : List ℤ} {g : Growing} (s : Spelt cursor base ws₀ ws g) where
    -- no run more: all of them
    pub spelt_all : (told : ℕ) → NextRun bytes channel level from to cursor None → Standing (Spelling mark (Shows bytes channel level) from to) told ws base g.count told
    spelt_all told n =
        record {
          list = list_at ws base g.count;
          rounds = 0;
          means = record { runs = s.runs; maximal = taken_all bytes channel level from to cursor s.taken n; built = ap ended (sym s.built) };
          spends = omega arith;
          holds = holds_same ws base g.count s.stands.slot.few;
        }

    module _ (x : Run) (onward : Cursor) (n : NextRun bytes channel level from to cursor (Some (x, onward))) where
      -- the marks of more runs
      on : (zs : List Run) → insert_each (map (mark_of mark to) (s.runs ++ zs)) [] ≡ insert_each (map (mark_of mark to) zs) (list_at ws base g.count)
      on zs =
          ap (λ (ms : List (Option Zone)). insert_each ms []) (map-append (mark_of mark to) s.runs zs)
          ∙ insert_each_append (map (mark_of mark to) s.runs) (map (mark_of mark to) zs) []
          ∙ ap (λ (b : Built). then b (insert_each (map (mark_of mark to) zs))) s.built

      -- the next run
      module _ {m : Option Zone} (is : m ≡ mark_of mark to x) where
        more : insert_each (map (mark_of mark to) (s.runs ++ (x ∷ []))) [] ≡ insert_each (m ∷ []) (list_at ws base g.count)
        more = on (x ∷ []) ∙ ap (λ (k : Option Zone). insert_each (k ∷ []) (list_at ws base g.count)) (sym is)

        -- without a mark it is passed over
        pub spelt_skip : m ≡ None → Spelt onward base ws₀ ws g
        unfolding insert_each
        spelt_skip e =
            record {
              runs = s.runs ++ (x ∷ []);
              taken = taken_more bytes channel level from to cursor onward s.taken n;
              built = more ∙ ap (λ (k : Option Zone). insert_each (k ∷ []) (list_at ws base g.count)) e;
              stands = s.stands;
              frame = s.frame;
            }

        -- its mark is put
        pub spelt_more : {vs : List ℤ} {h : Growing} → Growth (insert_each (m ∷ []) (list_at ws base g.count)) NoPair g (list_at ws base g.count) vs base h → Kept base slot_words ws vs → Spelt onward base ws₀ vs h
        spelt_more l f =
            record {
              runs = s.runs ++ (x ∷ []);
              taken = taken_more bytes channel level from to cursor onward s.taken n;
              built = more ∙ l.value ∙ ap listed (sym l.holds.zones);
              stands = grown_stands s.stands.slot f l;
              frame = kept_trans s.frame f;
            }

        -- or would be one too many, whatever runs come after it
        spelling_over : insert_each (m ∷ []) (list_at ws base g.count) ≡ puts.overflow → Spelling mark (Shows bytes channel level) from to (overflow 0 0)
        spelling_over e =
            let all = shows_runs bytes channel level from to in
            let rest = scanned_first (taken_more bytes channel level from to cursor onward s.taken n) all in
            record {
              runs = (s.runs ++ (x ∷ [])) ++ rest.0;
              maximal = subst (Runs (Shows bytes channel level) from to) rest.1 all;
              built =
                  ap ended
                  (sym
                  (ap (λ (ms : List (Option Zone)). insert_each ms []) (map-append (mark_of mark to) (s.runs ++ (x ∷ [])) rest.0)
                  ∙ insert_each_append (map (mark_of mark to) (s.runs ++ (x ∷ []))) (map (mark_of mark to) rest.0) []
                  ∙ ap (λ (b : Built). then b (insert_each (map (mark_of mark to) rest.0))) (more ∙ e)));
            }

        pub spelt_over : (told : ℕ) → insert_each (m ∷ []) (list_at ws base g.count) ≡ puts.overflow → Overflowed (Spelling mark (Shows bytes channel level) from to) told told
        spelt_over told e = record { overflowing = record { opened = 0; done = 0; means = spelling_over e; within = omega arith }; spends = omega arith }

-- a mark that words have room for
abbrev Small : Option Zone → Type 0
Small (Some z) = Ranged 1_000_000 z
Small None = Unit {0}

mark_small : {P : ℕ → Type 0} {at to : ℕ} (mark : Mark) (x : Run) → FirstRun P at to x.start x.end → to ≤ 1_000_000 → Small (mark_of mark to x)
mark_small Inside x f h = ranged_more h (ranged (proper_run {from = 0} x.start x.end (omega arith) f.some f.upper))
mark_small {to = to} End x f h = go (ltb x.end to)
  where
    go : (t : Bool) → Small (cond t (Some (diagonal x.end x.end)) None)
    go true = ranged_more {n = x.end} (omega (arith, f.upper)) (ranged (proper_diagonal x.end x.end (omega arith)))
    go false = tt

pub mark_ranged : {P : ℕ → Type 0} {at to : ℕ} (mark : Mark) (x : Run) → FirstRun P at to x.start x.end → to ≤ 1_000_000
    → {m : Option Zone} {z : Zone} → m ≡ mark_of mark to x → m ≡ Some z → Ranged 1_000_000 z
mark_ranged mark x f h is e = subst Small (sym is ∙ e) (mark_small mark x f h)

-- ---- what it comes to

spelling_letter : {P : ℕ → Type 0} {from to : ℕ} {v : Value} → Spelling Inside P from to v → Letter P from to v
spelling_letter s = record { runs = s.runs; maximal = s.maximal; built = s.built }

-- runs that have no end are passed over, and the others are put as the moments of their ends
ends_built : (to : ℕ) (rs : List Run) (L : List Zone) → insert_each (map (mark_of End to) rs) L ≡ insert_each (moment_zones (ends_before to rs)) L
unfolding insert_each ends_before
ends_built to [] L = refl
ends_built to (r ∷ rs) L = go (λ M. ends_built to rs M) (ltb r.end to)
  where
    go : ((M : List Zone) → insert_each (map (mark_of End to) rs) M ≡ insert_each (moment_zones (ends_before to rs)) M) → (t : Bool)
        → insert_each (cond t (Some (diagonal r.end r.end)) None ∷ map (mark_of End to) rs) L
        ≡ insert_each (moment_zones (cond t (r.end ∷ ends_before to rs) (ends_before to rs))) L
    go rest true = λ i. after (insert (diagonal r.end r.end) L) L (λ M. rest M i)
    go rest false = rest L

spelling_moments : (bytes : List ℕ) (channel : ℕ) (level : Level) (from to : ℕ) {v : Value}
    → Spelling End (Shows bytes channel level) (from - 1) (min (to + 1) (ticks bytes)) v → Moments (Shows bytes channel level) (Shows bytes channel (other level)) from to v
spelling_moments bytes channel level from to s =
    record {
      at = ends_before (min (to + 1) (ticks bytes)) s.runs;
      events = shows_events bytes channel level from to s.maximal;
      built = s.built ∙ ap ended (ends_built (min (to + 1) (ticks bytes)) s.runs []);
    }

module _ (bytes : List ℕ) (channel : ℕ) (level : Level) (from to told : ℕ) (ws : List ℤ) (base : ℕ) (r : Result Listed Stopped) where
  -- a letter
  pub spells_letter : EvaluatedAs (Spelling Inside (Shows bytes channel level) from to) told ws base r
      → EvaluatedAs (Letter (Shows bytes channel level) from to) told ws base r
  spells_letter s = evaluated_map _ _ told ws base (λ v p. spelling_letter p) r s

  -- the events where the channel leaves the level
  pub spells_moments : EvaluatedAs (Spelling End (Shows bytes channel level) (from - 1) (min (to + 1) (ticks bytes))) told ws base r
      → EvaluatedAs (Moments (Shows bytes channel level) (Shows bytes channel (other level)) from to) told ws base r
  spells_moments s = evaluated_map _ _ told ws base (λ v p. spelling_moments bytes channel level from to p) r s
