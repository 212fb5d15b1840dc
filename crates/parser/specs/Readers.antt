-- For the private readers alone: what they ask and promise each other. No public contract cites it.
use Rattle.std.specs.Prelude.{Option, Some, None, Result, Ok, Err, ◌≡◌, true, false, cond, List, ℕ, ◌+◌, ◌<◌, ltb, length, drop}
use Rattle.parser.specs.declared.Fault.{Fault}
use Rattle.parser.specs.declared.Fault.TheVariants.{NoForm, WrongLetter, WrongRange, TooDeep}
use Rattle.trees.specs.declared.Tree.{Tree}
use Rattle.trees.specs.Trees.{around}
use Rattle.tokens.specs.Tokens.{starts}

-- the part with the closing bracket after it
abbrev pub ClosedAs : List ℕ → Tree → Option Tree → Type 0
ClosedAs text inner (Some t) = (starts 41 (drop inner.at text) ≡ true) × (inner.at < length text) × (t ≡ around inner (inner.at + 1) false)
ClosedAs text inner None = starts 41 (drop inner.at text) ≡ false

-- what the checks 5 to 8, in the order of their numbers, say of a text of `size` bytes of which the tree is the part that was read
abbrev pub verdict : ℕ → ℕ → Tree → Result ℕ Fault
verdict size channels tree =
    cond (ltb tree.at size) (Err NoForm)
    (cond (ltb channels tree.width) (Err WrongLetter) (cond tree.wrong (Err WrongRange) (cond (ltb 16 tree.depth) (Err TooDeep) (Ok tree.root))))
