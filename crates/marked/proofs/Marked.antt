-- The marked set, computed from R's bytes and the drills' texts.
use mathlib.Core.Path.{◌≡◌, refl, sym, subst}
use mathlib.Core.Bool.{true, false}
use mathlib.Core.Logic.{◌↔◌, ◌⊎◌}
use mathlib.Core.List.Memᴰ.{not-nil}
use mathlib.Core.List.{List, [], ◌∷◌, ◌++◌, Memᴰ}
use Prim.Native.Nat.{ℕ, ◌+◌, ◌-◌, ◌*◌, ◌≤◌, min}
use native.Mathlib.Omega.{arith}
use borrow.Author.Tests.{ltb-true, ltb-false, leb-true}
use lib.Dec.{leb, ltb}
use lib.IntN.{ℤ}
use lib.ListN.{length}
use Rattle.limit.specs.Time.{Time, at_tick, ◌≤ᵀ◌, ◌≈ᵀ◌}
use Rattle.zone.specs.declared.Zone.{Zone}
use Rattle.limit.specs.Limit.{lesser, ◌⊕◌, broken}
use Rattle.zone.specs.Zone.{Stretch, tighter, where_room, tighten, both, meet, across, compose, run, diagonal, everything, limited, band as bandOf}
use Rattle.words.specs.Words.{zone_words}
use Rattle.list.specs.Insert.{covered, outside, insert, insert_each}
use Rattle.pairs.specs.Pairs.{pairs}
use Rattle.parts.specs.Parts.{of_limits, also, part, parts_on}
use Rattle.absence.specs.Absence.{parts_each, without, without_each, absent}
use Rattle.operators.specs.Operators.{union as unite, meets, compositions, banded}
use Rattle.recording.specs.Reading.{tick, le16, le32, ticks, channels}
use Rattle.recording.specs.Changes.{begins}
use Rattle.runs.specs.declared.Level.{Level}
use Rattle.runs.specs.Levels.{Shows}
use Rattle.runs.specs.Search.{other}
use Rattle.runs.specs.Runs.{Runs}
use Rattle.runs.specs.Events.{Events}
use Rattle.runs.specs.declared.Run.{Run}
use Rattle.std.specs.Prelude.{Ok}
use Rattle.runs.proofs.Events.{ends_before, shows_events}
use Rattle.runs.proofs.Examples.{R as example}
use Rattle.expression.specs.Expression.{Expression, literal, join, unary, depth}
use Rattle.expression.specs.Grammar.{Form, alternative}
use Rattle.expression.specs.Refusal.{Accepted}
use Rattle.tokens.specs.Tokens.{yes, branch, bind, starts, rest, expect, ranged, signed, digits, numeral, numbered, bound, upper_end, limits}
use Rattle.descent.specs.Descent.{postfixes, joining, read, height, descent}
use Rattle.expression.specs.declared.Sign.TheVariants.{High, Low}
use Rattle.expression.specs.declared.Join.TheVariants.{Union}
use Rattle.expression.specs.declared.Unary.TheVariants.{Star}
use Rattle.text.specs.Text.{ascii}
use Rattle.leaves.specs.Reading.{width, wrong}
use Rattle.descent.proofs.Complete.{whole_sound, unique}
use Rattle.parser.proofs.Parses.{right_length, accepted}
use Rattle.meaning.specs.Fits.{Fits}
use Rattle.meaning.proofs.Reported.{either_level}
use Rattle.meaning.specs.Lists.{value, ended, Then.goes, run_zones, Letter, moment_zones, Moments, Evaluates}
use Rattle.outcome.proofs.Listing.{listing}
use Rattle.calls.specs.Outcome.{Comes, room, words, fronted, cleared, FindAs}
use Rattle.marked.specs.Marked.{R, Row, marked, Gives, RowHolds}
use Rattle.calls.proofs.Outcomes.{recordings, drills, Without, recording_call, drill_none, accepted_call}
use Rattle.finder.proofs.Unstopped.{call_find}
use Rattle.finder.proofs.Calls.{find_unique}

-- ---- a drill

-- what causes 4, 6, 7 and 8 ask, as tests
abbrev Passes : List ℕ → Expression → Type 0
Passes text e =
    ltb 0 (length text) ∷ ltb 255 (length text) ∷ leb (width e) (channels R) ∷ wrong e ∷ leb (depth e) 16 ∷ []
    ≡ true ∷ false ∷ true ∷ false ∷ true ∷ []

-- A text that is read as an expression and passes the tests is accepted ..
passed : {text : List ℕ} {e : Expression} → descent (joining Union) text ≡ yes e [] → Passes text e → Accepted text (channels R) e
passed {text} {e} form pass =
    let a : ltb 0 (length text) ≡ true = cc in
    let b : ltb 255 (length text) ≡ false = cc in
    let c : leb (width e) (channels R) ≡ true = cc in
    let d : wrong e ≡ false = cc in
    let f : leb (depth e) 16 ≡ true = cc in
    let some = ltb-true 0 (length text) a in
    accepted (right_length text (λ n. omega arith) (ltb-false _ _ b)) (whole_sound text e form) (leb-true _ _ c) d (leb-true _ _ f)

-- .. and a call on it, with room for the list that it comes to, has one result.
gives : {text : List ℕ} {e : Expression} {L : List Zone} {r : ℕ} → descent (joining Union) text ≡ yes e [] → Passes text e
    → Evaluates (Shows R) 0 (ticks R) e (value L r)
    → (answer work : List ℤ) → length L * zone_words ≤ length answer → room ≤ length work → Gives text 0 r L answer work
gives {text} {e} {L} {r} form pass evaluates answer work long roomy =
    record { outcome = listing (length L) r; returns = refl; call = call; only = λ o a w h. find_unique h call }
  where
    taken : Accepted text (channels R) e
    taken = passed form pass

    comes : Comes R text (value L r)
    comes = record { drill = e; form = taken.form; evaluates = evaluates }

    -- told its own rounds it is not stopped
    none : Without R text r (length answer) (length work) (recordings ++ drills)
    none = drill_none R text r (length answer) (length work) (recording_call R text r (length answer) (length work) (Ok _) example.read) taken

    call : FindAs R text answer work (listing (length L) r) (fronted (words L) answer) (cleared work)
    call =
        record {
          outcome = call_find R text r (length answer) (length work) (accepted_call R text r (length answer) (length work) none roomy comes (omega arith) long) (λ e. omega arith);
          buffers = record { finishes = record { list = L; means = comes; count = refl }; answer_filled = refl; work_cleared = refl };
        }

-- The list of a letter, from its runs.
spelt : {P : ℕ → Type 0} {rs : List Run} → Runs P 0 (ticks R) rs → Letter P 0 (ticks R) (ended (insert_each (run_zones rs) []))
spelt m = record { runs = _; maximal = m; built = refl }

-- The list of an event, from the runs that it ends.
went_over : {level : Level} {rs : List Run} → Runs (Shows R 0 level) 0 (ticks R) rs
    → Moments (Shows R 0 level) (Shows R 0 (other level)) 0 (ticks R) (ended (insert_each (moment_zones (ends_before (ticks R) rs)) []))
went_over {level} {rs} m =
    let first : 0 ≡ 0 - 1 = omega arith in
    let last : ticks R ≡ min (ticks R + 1) (ticks R) = omega arith in
    let looked = subst (λ (n : ℕ). Runs (Shows R 0 level) n (min (ticks R + 1) (ticks R)) rs) first (subst (λ (n : ℕ). Runs (Shows R 0 level) 0 n rs) last m) in
    record {
      at = ends_before (ticks R) rs;
      events = subst (λ (n : ℕ). Events (Shows R 0 level) (Shows R 0 (other level)) 0 (ticks R) (ends_before n rs)) (sym last) (shows_events R 0 level 0 (ticks R) looked);
      built = refl;
    }

-- ---- the table

-- every row of a list holds
infixr 30 ◌⨾◌
data All : List Row → Type 0 where
  done : All []
  ◌⨾◌ : {x : Row} {xs : List Row} → RowHolds x → All xs → All (x ∷ xs)

each : {x : Row} {xs : List Row} → All xs → Memᴰ x xs → RowHolds x
each done m = absurd (not-nil m)
each (h ⨾ hs) (Memᴰ.head e) = subst RowHolds (sym e) h
each (h ⨾ hs) (Memᴰ.tail m) = each hs m

-- Every row of the table holds. A drill's proof is that its text is read, that it passes the tests, and how its list comes of those of `a`,
-- `!a`, `+a` and `-a`; the rest is computed.
pub marked_set : (x : Row) → Memᴰ x marked → RowHolds x
unfolding tick le32 le16 descent read height branch bind starts rest expect ranged signed digits numeral numbered bound upper_end limits postfixes width wrong depth
    lesser ◌⊕◌ tighter where_room tighten both meet across compose run diagonal everything limited bandOf covered outside insert insert_each ends_before unite pairs meets compositions banded
    of_limits also broken part parts_on parts_each without without_each absent
marked_set x =
    let a = spelt example.highs_are in
    let not_a = spelt example.lows_are in
    let rise = went_over example.lows_are in
    let fall = went_over example.highs_are in
    each
    (gives refl refl a
    ⨾ gives refl refl not_a
    ⨾ gives refl refl (goes a (goes a refl refl) refl)
    ⨾ gives refl refl (goes a (goes a refl refl) refl)
    ⨾ gives refl refl (goes a (goes not_a refl refl) refl)
    ⨾ gives refl refl (goes a refl refl)
    ⨾ gives refl refl (goes a refl refl)
    ⨾ gives refl refl (goes a refl refl)
    ⨾ gives refl refl (goes a refl refl)
    ⨾ gives refl refl (goes a refl refl)
    ⨾ gives refl refl (goes a refl refl)
    ⨾ gives refl refl (goes a refl refl)
    ⨾ gives refl refl (goes a (goes not_a refl refl) refl)
    ⨾ gives refl refl refl
    ⨾ gives refl refl rise
    ⨾ gives refl refl fall
    ⨾ gives refl refl (goes rise (goes (goes a refl refl) refl refl) refl)
    ⨾ gives refl refl (goes fall (goes (goes not_a refl refl) refl refl) refl)
    ⨾ gives refl refl (goes a (goes fall refl refl) refl)
    ⨾ gives refl refl (goes rise refl refl)
    ⨾ gives refl refl (goes a refl refl)
    ⨾ gives refl refl (goes (goes a (goes (goes a refl refl) refl refl) refl) refl refl)
    ⨾ refl
    ⨾ refl
    ⨾ refl
    ⨾ refl
    ⨾ done)

-- ---- what is reported

-- "`(a|!a)*` on R now fits the diagonal and every stretch from tick 2 on": of the stretches themselves, whatever zones they are listed in.
pub either_level_on_R : (drill : Expression) → Form alternative (ascii "(a|!a)*") drill
    → (x y : Time) → Fits R drill x y ↔ (Stretch 0 (ticks R) x y × ((x ≈ᵀ y) ⊎ (at_tick 2 ≤ᵀ x)))
unfolding tick le32 le16 begins descent read height branch bind starts rest expect ranged signed postfixes
either_level_on_R drill form x y =
    let is : drill ≡ unary Star (join Union (literal High 0) (literal Low 0)) = unique form (whole_sound (ascii "(a|!a)*") _ refl) in
    subst (λ (e : Expression). Fits R e x y ↔ (Stretch 0 (ticks R) x y × ((x ≈ᵀ y) ⊎ (at_tick 2 ≤ᵀ x)))) (sym is) (either_level example.read.1 0 x y)
