-- The tests of a recording say what its causes say; reading has one answer; and what is known of bytes that were read.
use mathlib.Core.Path.{◌≡◌, refl, sym, ap, subst, ◌∙◌}
use mathlib.Core.Bool.{Bool, true, false, cond, not, ◌&&◌, ◌||◌, and-false}
use mathlib.Core.List.{List}
use mathlib.Core.Logic.{◌↔◌}
use Prim.Native.Nat.{ℕ, zero, suc, ◌+◌, ◌-◌, ◌*◌, ◌%◌, ◌^◌, ◌/◌, ◌≤◌, ◌<◌}
use native.Mathlib.Decide.{ℕ_discrete}
use native.Mathlib.Nat.{div-eq_of_lt, le-div_iff_mul-le, one-mul}
use native.Mathlib.Omega.{arith}
use borrow.Author.Tests.{ltb-true, ltb-false, lt-ltb, leb-true, leb-false, le-leb, lt-leb, eqb-true, eq-eqb, ne_eqb, not-true, not-false}
use lib.Dec.{leb, ltb, eqb}
use lib.Pow.{shl_exact}
use Rattle.std.proofs.Common.{pow_pos}
use lib.ListN.{length}
use Rattle.recording.specs.Reading.{Sized, Headed, Changed, AllChanged, RecordingCause, wrong_length, wrong_head, wrong_change, RecordingRefused, IsRecording, ReadingAs, dimensions, has_mark, head_mark, change_mark, duration, channels, changes, time, levels, byte_at, ticks}
use Rattle.recording.specs.Tests.{sized, headed, changed, all_changed}
use Rattle.recording.specs.declared.Dimensions.{Dimensions}
use Rattle.recording.specs.declared.Fault.{Fault}
use Rattle.recording.specs.declared.Fault.TheVariants.{Length, Head, Change}
use Rattle.std.specs.Prelude.{Result, Ok, Err}
use Rattle.recording.proofs.Rounding.{tick_range}

-- a flag of the code, negated, and the test that it is
pub passed : {a b : Bool} → a ≡ b → not a ≡ false → b ≡ true
passed {a} e h = sym e ∙ not-false a h

pub failed : {a b : Bool} → a ≡ b → not a ≡ true → b ≡ false
failed {a} e h = sym e ∙ not-true a h

-- a number is below m exactly where m does not divide it even once
pub within : (n m : ℕ) → 0 < m → ltb n m ≡ eqb (n / m) 0
within n m h = go (ltb n m) refl
  where
    go : (b : Bool) → ltb n m ≡ b → b ≡ eqb (n / m) 0
    go true e = sym (eq-eqb (n / m) 0 (div-eq_of_lt (ltb-true n m e)))
    go false e = let l : 1 ≤ n / m = (le-div_iff_mul-le h).1 (omega (arith, ltb-false n m e)) in sym (ne_eqb (n / m) 0 (λ z. omega (arith, l, z)))

pub one_bit_each : (k : ℕ) → k ≤ 16 → (1 * 2 ^ k) % 4294967296 ≡ 2 ^ k
one_bit_each k h = shl_exact 1 k 32 (omega arith) (omega arith) ∙ one-mul (2 ^ k)

-- the bits from bit k on are zero exactly below 2 to the k
pub quiet_below : (n k : ℕ) → eqb (n / 2 ^ k) 0 ≡ ltb n (2 ^ k)
quiet_below n k = sym (within n (2 ^ k) (pow_pos k))

-- THE TESTS SAY WHAT THE CAUSES SAY

abbrev Tests : Bool → Type 0 → Type 0
Tests b A = (b ≡ true) ↔ A

le_is : (m n : ℕ) → Tests (leb m n) (m ≤ n)
le_is m n = (leb-true m n, le-leb m n)

lt_is : (m n : ℕ) → Tests (ltb m n) (m < n)
lt_is m n = (ltb-true m n, lt-ltb m n)

eq_is : (m n : ℕ) → Tests (eqb m n) (m ≡ n)
eq_is m n = (eqb-true m n, eq-eqb m n)

both : {a b : Bool} {A B : Type 0} → Tests a A → Tests b B → Tests (a && b) (A × B)
both {a = true} p q = (λ e. (p.0 refl, q.0 e), λ h. q.1 h.1)
both {a = false} p q = (λ e. absurd (impossible e), λ h. p.1 h.0)
  where
    impossible : false ≡ true → ⊥
    impossible e = let z : ◌≡◌ {A = ℕ} 0 1 = cc in omega arith

-- after change i
pub above_is : (i j m n : ℕ) → Tests (leb j i || ltb m n) (i < j → m < n)
above_is i j m n = go (leb j i) refl
  where
    go : (t : Bool) → leb j i ≡ t → Tests (t || ltb m n) (i < j → m < n)
    go true e = (λ _ h. let k = leb-true j i e in omega arith, λ _. refl)
    go false e = (λ q _. ltb-true m n q, λ h. lt-ltb m n (h (leb-false j i e)))

pub sized_is : (largest : ℕ) (bytes : List ℕ) → Tests (sized largest bytes) (Sized largest bytes)
unfolding sized
sized_is largest bytes =
    let t = both (lt_is 0 (length bytes)) (both (le_is (length bytes) largest) (eq_is (length bytes % 8) 0)) in (
      λ e. let h = t.0 e in record { some = h.0; within = h.1.0; whole = h.1.1 },
      λ s. t.1 (s.some, (s.within, s.whole)),
    )

-- what a right length and a right head leave room for
pub sized_room : (largest : ℕ) (bytes : List ℕ) → sized largest bytes ≡ true → 8 ≤ length bytes
sized_room largest bytes e = let s = (sized_is largest bytes).0 e in omega (arith, s.some, s.whole)

mark_is : (b : Bool) → Tests b (b ≡ true)
mark_is b = (λ e. e, λ e. e)

pub headed_is : (bytes : List ℕ) → Tests (headed bytes) (Headed bytes)
unfolding headed
headed_is bytes =
    let t = both (mark_is (has_mark bytes 0 head_mark))
    (both (both (le_is 10 (duration bytes)) (le_is (duration bytes) 10000000))
    (both (both (le_is 1 (channels bytes)) (le_is (channels bytes) 16)) (eq_is (byte_at bytes 7) 0))) in (
      λ e. let h = t.0 e in record { mark = h.0; long = h.1.0.0; short = h.1.0.1; one = h.1.1.0.0; few = h.1.1.0.1; blank = h.1.1.1 },
      λ s. t.1 (s.mark, ((s.long, s.short), ((s.one, s.few), s.blank))),
    )

pub headed_small : (bytes : List ℕ) → headed bytes ≡ true → (duration bytes ≤ 10000000) × (channels bytes ≤ 16)
headed_small bytes e = let h = (headed_is bytes).0 e in (h.short, h.few)

changed_is : (bytes : List ℕ) (j : ℕ) → Tests (changed bytes j) (Changed bytes j)
unfolding changed
changed_is bytes j =
    let t = both (mark_is (has_mark bytes j change_mark)) (both (lt_is (time bytes j) (duration bytes))
    (both (above_is 1 j (time bytes (j - 1)) (time bytes j)) (eq_is (levels bytes j / 2 ^ channels bytes) 0))) in (
      λ e. let h = t.0 e in record { mark = h.0; below = h.1.0; above = h.1.1.0; quiet = h.1.1.1 },
      λ s. t.1 (s.mark, (s.below, (s.above, s.quiet))),
    )

all_is : (bytes : List ℕ) (n : ℕ) → Tests (all_changed bytes n) ((j : ℕ) → 0 < j → j ≤ n → Changed bytes j)
unfolding all_changed
all_is bytes zero = (λ _ j h k. absurd (none j h k), λ _. refl)
  where
    none : (j : ℕ) → 0 < j → j ≤ 0 → ⊥
    none j h k = omega arith
all_is bytes (suc n) =
    let t = both (all_is bytes n) (changed_is bytes (suc n)) in
    (λ e. let h = t.0 e in last h.0 h.1, λ h. t.1 (λ j a b. h j a (omega arith), h (suc n) (omega arith) (omega arith)))
  where
    last : ((j : ℕ) → 0 < j → j ≤ n → Changed bytes j) → Changed bytes (suc n) → (j : ℕ) → 0 < j → j ≤ suc n → Changed bytes j
    last h l j a b = elim (ℕ_discrete j (suc n)) [ yes e ↦ rw e l | no ne ↦ h j a (omega arith) ]

off : {b : Bool} {A : Type 0} → Tests b A → (A → ⊥) → b ≡ false
off {b = true} t n = absurd (n (t.0 refl))
off {b = false} t n = refl

-- a claim whose test fails, and two tests of one claim
no_way : {b : Bool} {A : Type 0} → b ≡ false → Tests b A → A → ⊥
no_way p t h = let q = t.1 h in let z : ◌≡◌ {A = ℕ} 0 1 = cc in omega arith

on : {b : Bool} {A : Type 0} → Tests b A → ¬ ¬ A → b ≡ true
on {b = true} t n = refl
on {b = false} t n = absurd (n (no_way refl t))

agree : {a b : Bool} {A : Type 0} → Tests a A → Tests b A → a ≡ b
agree {a = true} s t = sym (t.1 (s.0 refl))
agree {a = false} s t = sym (off t (no_way refl s))

-- numbers of two bytes are equal exactly where both their bytes are
pub two_bytes : (a b c d : ℕ) → a < 256 → c < 256 → eqb (a + 256 * b) (c + 256 * d) ≡ (eqb a c && eqb b d)
two_bytes a b c d h k =
    let t = eq_is (a + 256 * b) (c + 256 * d) in
    agree (λ e. let q = t.0 e in (omega arith, omega arith), λ p. t.1 (omega (arith, p.0, p.1))) (both (eq_is a c) (eq_is b d))

-- change j, if there is one, comes before the end
abbrev pub in_time : List ℕ → ℕ → Bool
in_time bytes j = leb j 0 || ltb (time bytes j) (duration bytes)

-- a wrong change among the first n
pub one_wrong : (bytes : List ℕ) (n j : ℕ) → 0 < j → j ≤ n → changed bytes j ≡ false → all_changed bytes n ≡ false
one_wrong bytes n j a b e = off (all_is bytes n) (λ h. no_way e (changed_is bytes j) (h j a b))

-- a last one that comes too late
pub late : (bytes : List ℕ) (n : ℕ) → 0 < n → duration bytes ≤ time bytes n → all_changed bytes n ≡ false
late bytes n some h = off (all_is bytes n) (λ a. omega (arith, (a n some (omega arith)).below, h))

-- one change more that is right unless it comes too late
pub one_more : (bytes : List ℕ) (j : ℕ) → all_changed bytes j ≡ in_time bytes j
    → changed bytes (suc j) ≡ ltb (time bytes (suc j)) (duration bytes) → all_changed bytes (suc j) ≡ in_time bytes (suc j)
unfolding all_changed
one_more bytes j a e = rw (a, e, lt-leb (suc j) 0 (omega arith)) (go (ltb (time bytes (suc j)) (duration bytes)) refl)
  where
    go : (b : Bool) → ltb (time bytes (suc j)) (duration bytes) ≡ b → (in_time bytes j && b) ≡ b
    go false q = and-false (in_time bytes j)
    go true q =
        let h = (changed_is bytes (suc j)).0 (e ∙ q) in
        let before : suc j - 1 ≡ j = omega arith in
        let above : 0 < j → time bytes j < time bytes (suc j) = λ k. rw before at (h.above (omega arith)) in
        rw ((above_is 0 j (time bytes j) (duration bytes)).1 (λ k. omega (arith, h.below, above k)))

-- the same at a number that is no successor
pub one_further : (bytes : List ℕ) (j : ℕ) → 0 < j → all_changed bytes (j - 1) ≡ in_time bytes (j - 1) → changed bytes j ≡ ltb (time bytes j) (duration bytes)
    → all_changed bytes (j + 1 - 1) ≡ in_time bytes (j + 1 - 1)
one_further bytes j h a e =
    let next : suc (j - 1) ≡ j = omega arith in
    let same : j + 1 - 1 ≡ j = omega arith in
    rw same (subst (λ (i : ℕ). all_changed bytes i ≡ in_time bytes i) next (one_more bytes (j - 1) a (subst (λ (i : ℕ). changed bytes i ≡ ltb (time bytes i) (duration bytes)) (sym next) e)))

-- where the last change comes in time all do
pub last_in_time : (bytes : List ℕ) (n : ℕ) → 0 < n → all_changed bytes n ≡ in_time bytes n → time bytes n < duration bytes → all_changed bytes n ≡ true
last_in_time bytes n some a h = a ∙ rw (lt-leb n 0 some, lt-ltb (time bytes n) (duration bytes) h)

-- what the last time says of all changes
pub ruleset times_rise = (late, one_further, last_in_time)

-- THE ANSWER

-- what reading answers, computed: each cause over the whole input before the next
unfoldable pub reading : ℕ → List ℕ → Result Dimensions Fault
reading largest bytes =
    cond (sized largest bytes)
    (cond (headed bytes)
    (cond (all_changed bytes (changes bytes))
    (Ok (dimensions bytes)) (Err Change)) (Err Head))
    (Err Length)

-- the cause of number m fails, if what that number asks is met
met : {largest : ℕ} {bytes : List ℕ} (m : ℕ) → (m ≡ 1 → Sized largest bytes) → (m ≡ 2 → Headed bytes) → (m ≡ 3 → AllChanged bytes) → ¬ RecordingCause largest bytes m
met m one two three (wrong_length x) = x (one refl)
met m one two three (wrong_head x) = x (two refl)
met m one two three (wrong_change x) = x (three refl)

-- a wrong length is the first cause, whatever else is wrong
pub refused_length : {largest : ℕ} {bytes : List ℕ} → ¬ Sized largest bytes → RecordingRefused largest bytes 1
refused_length n = record { holds = wrong_length n; first = λ m l. met m (λ e. absurd (omega arith)) (λ e. absurd (omega arith)) (λ e. absurd (omega arith)) }

module _ (largest : ℕ) (bytes : List ℕ) where
  given : ReadingAs largest bytes (reading largest bytes)
  unfolding reading
  given = go (sized largest bytes) (sized_is largest bytes) (headed bytes) (headed_is bytes)
      (all_changed bytes (changes bytes)) (all_is bytes (changes bytes))
    where
      go : (s : Bool) → Tests s (Sized largest bytes) → (h : Bool) → Tests h (Headed bytes) → (a : Bool) → Tests a (AllChanged bytes)
          → ReadingAs largest bytes (cond s (cond h (cond a (Ok (dimensions bytes)) (Err Change)) (Err Head)) (Err Length))
      go true s true h true a = (
        λ m. met m (λ _. s.0 refl) (λ _. h.0 refl) (λ _. a.0 refl),
        record { some = (s.0 refl).some; whole = (s.0 refl).whole; headed = h.0 refl; changed = a.0 refl; measured = refl },
      )
      go true s true h false a =
          record { holds = wrong_change (no_way refl a); first = λ m l. met m (λ _. s.0 refl) (λ _. h.0 refl) (λ e. absurd (omega arith)) }
      go true s false h a _ =
          record { holds = wrong_head (no_way refl h); first = λ m l. met m (λ _. s.0 refl) (λ e. absurd (omega arith)) (λ e. absurd (omega arith)) }
      go false s h _ a _ = refused_length (no_way refl s)

  answer : (a : Result Dimensions Fault) → ReadingAs largest bytes a → reading largest bytes ≡ a
  unfolding reading
  answer (Err Length) r = rw (off (sized_is largest bytes) (λ s. met 1 (λ _. s) (λ e. absurd (omega arith)) (λ e. absurd (omega arith)) r.holds))
  answer (Err Head) r =
      rw (on (sized_is largest bytes) (λ x. r.first 1 (omega arith) (wrong_length x)), off (headed_is bytes) (λ h. met 2 (λ e. absurd (omega arith)) (λ _. h) (λ e. absurd (omega arith)) r.holds))
  answer (Err Change) r =
      rw (on (sized_is largest bytes) (λ x. r.first 1 (omega arith) (wrong_length x)), on (headed_is bytes) (λ x. r.first 2 (omega arith) (wrong_head x)), off (all_is bytes (changes bytes)) (λ a. met 3 (λ e. absurd (omega arith)) (λ e. absurd (omega arith)) (λ _. a) r.holds))
  answer (Ok size) r =
      rw (on (sized_is largest bytes) (λ x. r.0 1 (wrong_length x)), (headed_is bytes).1 r.1.headed, (all_is bytes (changes bytes)).1 r.1.changed, r.1.measured)

  -- an answer is the computed one exactly if it is due
  pub exactly : (a : Result Dimensions Fault) → (reading largest bytes ≡ a) ↔ ReadingAs largest bytes a
  exactly a = (λ e. subst (ReadingAs largest bytes) e given, answer a)

  -- the answer at the first test that fails, and where none does
  pub wrong_sized : sized largest bytes ≡ false → ReadingAs largest bytes (Err Length)
  unfolding reading
  wrong_sized s = (exactly (Err Length)).0 (rw s)

  pub wrong_headed : sized largest bytes ≡ true → headed bytes ≡ false → ReadingAs largest bytes (Err Head)
  unfolding reading
  wrong_headed s h = (exactly (Err Head)).0 (rw (s, h))

  pub wrong_changed : sized largest bytes ≡ true → headed bytes ≡ true → all_changed bytes (changes bytes) ≡ false → ReadingAs largest bytes (Err Change)
  unfolding reading
  wrong_changed s h a = (exactly (Err Change)).0 (rw (s, h, a))

  pub nothing_wrong : {t : ℕ} → sized largest bytes ≡ true → headed bytes ≡ true → all_changed bytes (changes bytes) ≡ true → t ≡ ticks bytes
      → ReadingAs largest bytes (Ok (record { ticks = t; channels = channels bytes; changes = changes bytes }))
  unfolding reading
  nothing_wrong s h a t = (exactly (Ok _)).0 (rw (s, h, a, t))

  -- all bytes have one answer
  pub reading_exists : (a : Result Dimensions Fault) × ReadingAs largest bytes a
  reading_exists = (reading largest bytes, given)

  pub reading_unique : (a b : Result Dimensions Fault) → ReadingAs largest bytes a → ReadingAs largest bytes b → a ≡ b
  reading_unique a b p q = sym (answer a p) ∙ answer b q

-- what the first tests say while reading goes on
pub ruleset told_by_tests = (sized_room, headed_small, one_bit_each, wrong_sized)

-- what is known of bytes that were read as a recording
module _ {bytes : List ℕ} {size : Dimensions} (read : IsRecording bytes size) where
  -- its head and its changes are right, and its dimensions are those of the bytes
  pub read_headed : Headed bytes
  read_headed = read.headed

  pub read_changed : AllChanged bytes
  read_changed = read.changed

  pub read_numbers : size ≡ dimensions bytes
  read_numbers = read.measured

  pub read_count : size.changes ≡ changes bytes
  read_count = ap (λ (d : Dimensions). d.changes) read_numbers

  pub read_end : size.ticks ≡ ticks bytes
  read_end = ap (λ (d : Dimensions). d.ticks) read_numbers

  -- change j lies within the bytes, and its time is small
  pub read_room : (j : ℕ) → j ≤ changes bytes → 8 * j + 8 ≤ length bytes
  read_room j h = omega (arith, read.some, read.whole)

  pub read_time : (j : ℕ) → 0 < j → j ≤ changes bytes → time bytes j ≤ 10000000
  read_time j a b = omega (arith, (read_changed j a b).below, read_headed.short)

  -- a recording has 1 to 1,000,000 ticks
  pub read_ticks : (1 ≤ size.ticks) × (size.ticks ≤ 1000000)
  read_ticks = rw read_numbers (tick_range read_headed.long read_headed.short)
