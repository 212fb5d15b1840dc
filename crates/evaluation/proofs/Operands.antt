-- An operand and what comes of it, with rounds told: the operand's rounds are spent first.
use Rattle.std.specs.Prelude.{Result, Ok, Err}
use mathlib.Core.Path.{◌≡◌, refl}
use mathlib.Core.List.{List}
use Prim.Native.Nat.{ℕ, ◌+◌}
use native.Mathlib.Omega.{arith}
use lib.IntN.{ℤ}
use Rattle.zone.specs.declared.Zone.{Zone}
use Rattle.meaning.specs.Lists.{Value, value, with_rounds, Then, Then.goes, Then.stops}
use Rattle.purse.specs.declared.Listed.{Listed}
use Rattle.purse.specs.declared.Stopped.{Stopped}
use Rattle.purse.specs.declared.Stopped.TheVariants.{Overflow, Spent}
use Rattle.purse.specs.Purse.{EvaluatedAs}
use Rattle.purse.proofs.Values.{begun_with}
use Rattle.meaning.proofs.Evaluation.{One, HasValue, then_begun}

module _ (operand : Value → Type 0) (next : List Zone → Value → Type 0) (told : ℕ) where
  -- an operand with a list: what comes of it has the rounds left
  pub then_goes : (A : List Zone) (r given : ℕ) → operand (value A r) → r + given ≡ told → (ws : List ℤ) (base : ℕ) (e : Result Listed Stopped) → EvaluatedAs (next A) given ws base e
      → EvaluatedAs (Then operand next) told ws base e
  then_goes A r given p q ws base (Ok l) s =
      record { list = s.list; rounds = r + s.rounds; means = goes p s.means refl; spends = omega (arith, s.spends); holds = s.holds }
  then_goes A r given p q ws base (Err (Overflow left)) s =
      let o = s.overflowing in
      record {
        overflowing = record { opened = r + o.opened; done = r + o.done; means = goes p o.means refl; within = omega (arith, o.within) };
        spends = omega (arith, s.spends);
      }
  then_goes A r given p q ws base (Err Spent) x =
      record { whole = with_rounds r x.whole; means = goes p x.means refl; beyond = omega (arith, x.beyond, begun_with r x.whole) }

  -- an operand without one: so is the whole. Where rounds are spent the whole comes to something all the same, and begins no fewer
  pub then_stops : One operand → HasValue (Then operand next) → (us ws : List ℤ) (at base : ℕ) (e : Stopped)
      → EvaluatedAs operand told us at (Err e) → EvaluatedAs (Then operand next) told ws base (Err e)
  then_stops one some us ws at base (Overflow left) s =
      let o = s.overflowing in record { overflowing = record { opened = o.opened; done = o.done; means = stops o.means; within = o.within }; spends = s.spends }
  then_stops one some us ws at base Spent x = record { whole = some.0; means = some.1; beyond = omega (arith, x.beyond, then_begun one x.means some.1) }
