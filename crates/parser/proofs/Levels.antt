-- The levels of the readers from the innermost, for the measure of their cycle: a primary 1, a repeat 2, a factor 3, and then for each
-- join its operand and the chain of its operands.
use Prim.Native.Nat.{ℕ}
use Rattle.expression.specs.declared.Join.{Join}
use Rattle.expression.specs.declared.Join.TheVariants.{Union, Intersection, Concatenation}

abbrev pub operand_level : Join → ℕ
operand_level Union = 8
operand_level Intersection = 6
operand_level Concatenation = 4
