-- The steps of the functions' code: a contract of two clauses.

-- a clause, and the one that follows from it
pub with_meaning : {P Q : Type 0} → (P → Q) → P → P × Q
with_meaning f p = (p, f p)
