-- Laws on the evaluator.
pub mod Operands
pub mod Evaluator
