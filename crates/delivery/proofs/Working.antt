-- From what the steps answer to the stored drill worked out.
use mathlib.Core.Path.{◌≡◌, refl, sym, ap, subst, ◌∙◌}
use mathlib.Core.Bool.{Bool, true, false, cond}
use mathlib.Core.List.{List}
use Prim.Native.Nat.{ℕ, suc, ◌-◌, ◌*◌, ◌≤◌}
use native.Mathlib.Omega.{arith}
use borrow.Author.Tests.{leb-true, leb-false}
use lib.Dec.{leb}
use lib.IntN.{ℤ}
use lib.ListN.{length}
use Rattle.zone.specs.declared.Zone.{Zone}
use Rattle.words.specs.Words.{zone_words}
use Rattle.list.specs.Slots.{Kept, list_at}
use Rattle.purse.specs.declared.Listed.{Listed}
use Rattle.purse.specs.declared.Stopped.{Stopped}
use Rattle.purse.specs.declared.Stopped.TheVariants.{Overflow, Spent}
use Rattle.meaning.specs.Lists.{Value, value, overflow, begun, spent}
use Rattle.purse.specs.Purse.{EvaluatedAs, Spending}
use Rattle.std.specs.Prelude.{Result, Ok, Err}
use Rattle.outcome.specs.declared.Finished.{Finished}
use Rattle.delivery.specs.declared.Shortage.{Shortage}
use Rattle.delivery.specs.declared.Shortage.TheVariants.{AnswerShort}
use Rattle.delivery.specs.Buffers.{room, words, fronted, cleared}
use Rattle.delivery.specs.Steps.{InFront, comes_to, left_of, answer_after}
use Rattle.delivery.specs.Working.{WorkedAs}
use Rattle.delivery.proofs.Buffers.{cleared_kept}

-- An evaluated list stands at the front of the work buffer.
pub in_front : (comes : Value → Type 0) (told : ℕ) (r : Result Listed Stopped) (ws : List ℤ) → room ≤ length ws → EvaluatedAs comes told ws 0 r → InFront r told (length ws)
in_front comes told (Ok l) ws enough h = (omega (arith, h.holds.few), omega (arith, h.spends))
in_front comes told (Err (Overflow left)) ws enough h = tt
in_front comes told (Err Spent) ws enough h = tt

-- Its finished rounds are spent; a drill that would begin more rounds than told has finished all of them.
spends : (comes : Value → Type 0) (told : ℕ) (ws : List ℤ) → ((v : Value) → comes v → begun v ≤ suc (spent v)) → (r : Result Listed Stopped) → EvaluatedAs comes told ws 0 r → Spending comes told (left_of r)
spends comes told ws almost (Ok l) h = record { whole = value h.list h.rounds; means = h.means; left_is = omega (arith, h.spends) }
spends comes told ws almost (Err (Overflow left)) h = let o = h.overflowing in record { whole = overflow o.opened o.done; means = o.means; left_is = omega (arith, h.spends) }
spends comes told ws almost (Err Spent) x = record { whole = x.whole; means = x.means; left_is = omega (arith, x.beyond, almost x.whole x.means) }

-- The evaluator's answer, delivered where there is room for it, and the work buffer cleared: what the evaluator wrote is among the words that are cleared.
module _ (comes : Value → Type 0) (almost : (v : Value) → comes v → begun v ≤ suc (spent v)) (told : ℕ) {size : ℕ} (answer : List ℤ) {work ws : List ℤ}
    (enough : room ≤ length work) (few : size ≤ room) (k : Kept 0 size work ws) where
  pub worked : (r : Result Listed Stopped) {left : ℕ} {answer' work' : List ℤ} {w : Result Finished Shortage} → EvaluatedAs comes told ws 0 r → w ≡ comes_to r told (length answer) → left ≡ left_of r
      → answer' ≡ answer_after r ws answer → work' ≡ cleared ws → WorkedAs comes told w left answer work answer' work'
  worked (Err (Overflow left)) h e l f g = rw (e, l) (enough, h.overflowing, spends comes told ws almost (Err (Overflow left)) h, record { answer_kept = f; work_cleared = g ∙ cleared_kept k few })
  worked (Err Spent) x e l f g = rw (e, l) (enough, x, spends comes told ws almost (Err Spent) x, record { answer_kept = f; work_cleared = g ∙ cleared_kept k few })
  worked (Ok list) {answer' = answer'} {work' = work'} h e l f g = rw (e, l) (at (leb (list.count * zone_words) (length answer)) refl f)
    where
      rounds_are : told - list.left ≡ h.rounds
      rounds_are = omega (arith, h.spends)

      at : (b : Bool) → leb (list.count * zone_words) (length answer) ≡ b → answer' ≡ cond b (fronted (words (list_at ws 0 list.count)) answer) answer
          → WorkedAs comes told (cond b (Ok (record { zones = list.count; rounds = told - list.left })) (Err AnswerShort)) list.left answer work answer' work'
      at true t q = (
        enough,
        (leb-true (list.count * zone_words) (length answer) t, omega (arith, h.spends)),
        spends comes told ws almost (Ok list) h,
        record {
          finishes = record { list = h.list; means = subst (λ (n : ℕ). comes (value h.list n)) (sym rounds_are) h.means; count = h.holds.count };
          answer_filled = q ∙ ap (λ (L : List Zone). fronted (words L) answer) h.holds.zones;
          work_cleared = g ∙ cleared_kept k few;
        },
      )
      at false t q = (
        enough,
        ((h.list, h.rounds, h.means, omega (arith, leb-false (list.count * zone_words) (length answer) t, h.holds.count)), omega (arith, h.spends)),
        spends comes told ws almost (Ok list) h,
        record { answer_kept = q; work_cleared = g ∙ cleared_kept k few },
      )
