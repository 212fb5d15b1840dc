use Rattle.text.proofs.Text.+decimal.Given as goal

-- the number itself
abbrev pub decreases-decimal : goal.decreases-decimal
decreases-decimal l = l.n
