-- Limits: upper limits on a difference of two times, "each limit is either reached or not reached, with its whole number".
use Rattle.std.specs.Prelude.{Bool, cond, ◌↔◌, ℕ, ◌≤◌, T, ℤ, pos, neg_ℤ, ◌+ℤ◌, ◌*ℤ◌, ◌≤ℤ◌, ◌<ℤ◌}
use Rattle.std.specs.Int.Signed.{le_z, lt_z, shr_z, mag}
use Rattle.limit.specs.Time.{Time, later, ◌≤ᵀ◌, ◌<ᵀ◌, difference, scaled}
pub use Rattle.limit.specs.declared.Limit.{Limit}
pub use Rattle.limit.specs.declared.Limit.TheVariants.{AtMost, Below}

-- x − y keeps to the limit: reached, x − y ≤ v; not reached, x − y < v
unfoldable pub Within : Limit → Time → Time → Type 0
Within (AtMost v) x y = difference x y ≤ℤ scaled v x y
Within (Below v) x y = difference x y <ℤ scaled v x y

-- the order: "not reached being smaller at equal v"
abbrev pub at_most : Limit → Limit → Bool
at_most (AtMost a) (AtMost b) = le_z a b
at_most (AtMost a) (Below b) = lt_z a b
at_most (Below a) (AtMost b) = le_z a b
at_most (Below a) (Below b) = le_z a b

infix 50 ◌≤ᴸ◌
pub record ◌≤ᴸ◌ (l m : Limit) : Type 0 where
  pub le : T (at_most l m)

-- the lesser of two limits
unfoldable pub lesser : Limit → Limit → Limit
lesser l m = cond (at_most l m) l m

-- the greater
unfoldable pub greater : Limit → Limit → Limit
greater l m = cond (at_most l m) m l

-- "a sum is reached if both its parts are"
infixl 60 ◌⊕◌
unfoldable pub ◌⊕◌ : Limit → Limit → Limit
AtMost a ⊕ AtMost b = AtMost (a +ℤ b)
AtMost a ⊕ Below b = Below (a +ℤ b)
Below a ⊕ AtMost b = Below (a +ℤ b)
Below a ⊕ Below b = Below (a +ℤ b)

-- the limit on the negated quantity that is kept to exactly where this one is broken
unfoldable pub broken : Limit → Limit
broken (AtMost v) = Below (neg_ℤ v)
broken (Below v) = AtMost (neg_ℤ v)

pub record IsBroken (l m : Limit) : Type 0 where
  pub within : (x y : Time) → Within m y x ↔ ¬ Within l x y

-- 0, reached
abbrev pub nought : Limit
nought = AtMost (pos 0)

-- "at most n", reached; and "at least n", which "is kept as an upper limit on the negated quantity"
abbrev pub most : ℕ → Limit
most n = AtMost (pos n)

abbrev pub least : ℕ → Limit
least n = AtMost (neg_ℤ (pos n))

-- "less than n" and "more than n", not reached, kept in the same way
abbrev pub less : ℕ → Limit
less n = Below (pos n)

abbrev pub more : ℕ → Limit
more n = Below (neg_ℤ (pos n))

-- what they say of x − y: at most n; at most −n, so that y − x is at least n; and so for less and more
pub record IsMost (n : ℕ) (l : Limit) : Type 0 where
  pub within : (x y : Time) → Within l x y ↔ x ≤ᵀ later n y

pub record IsLeast (n : ℕ) (l : Limit) : Type 0 where
  pub within : (x y : Time) → Within l x y ↔ later n x ≤ᵀ y

pub record IsLess (n : ℕ) (l : Limit) : Type 0 where
  pub within : (x y : Time) → Within l x y ↔ x <ᵀ later n y

pub record IsMore (n : ℕ) (l : Limit) : Type 0 where
  pub within : (x y : Time) → Within l x y ↔ later n x <ᵀ y

-- its whole number
abbrev pub value : Limit → ℤ
value (AtMost v) = v
value (Below v) = v

-- the last tick that zones are made of; and what sums of their numbers keep within
abbrev pub most_ticks : ℕ
most_ticks = 1_000_000

abbrev pub most_sum : ℕ
most_sum = 4_000_000

-- the number is within n of 0 (`mag v` is v for v ≥ 0, and −v − 1 below)
abbrev pub Small : ℕ → Limit → Type 0
Small n l = mag (value l) ≤ n

-- "In the answer buffer a limit v is 2 × v + 1 if reached and 2 × v if not"
abbrev pub code : Limit → ℤ
code (AtMost v) = v *ℤ pos 2 +ℤ pos 1
code (Below v) = v *ℤ pos 2

-- the limit of a word: its number is half the word, rounded down; the word is odd where it is above twice that
abbrev pub decode : ℤ → Limit
decode w = let h = shr_z w 2 in cond (lt_z (h *ℤ pos 2) w) (AtMost h) (Below h)
