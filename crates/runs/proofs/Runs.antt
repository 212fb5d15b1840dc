-- Maximal runs, of anything that holds in some ticks: two of them never touch; a list of all of them in rising time is the only one, and
-- it grows run by run as they are found one after the other.
use mathlib.Core.Path.{◌≡◌, refl, sym, subst}
use mathlib.Core.Bool.{Bool, true, false, cond}
use mathlib.Core.List.Memᴰ
use mathlib.Core.List.{List, [], ◌∷◌, ◌++◌, append_assoc, append-nil, Memᴰ}
use mathlib.Core.Logic.{◌↔◌, ⊎_elim}
use Prim.Native.Nat.{ℕ, zero, suc, ◌+◌, ◌-◌, pred, ◌≤◌, ◌<◌}
use native.Mathlib.Decide.{dec_le, ℕ_discrete}
use native.Mathlib.Omega.{arith}
use borrow.Author.Tests.{ltb-true, ltb-false}
use lib.Dec.{ltb}
use Rattle.runs.specs.Runs.{Maximal, Rising, none, Runs, FirstRun}
use Rattle.runs.specs.declared.Run.{Run}
use Rattle.runs.proofs.Rising.{rising_last, first_of, same_members}

run : ℕ → ℕ → Run
run s e = record { start = s; end = e }

-- some run of the list has the tick k
pub record Held (xs : List Run) (k : ℕ) : Type 0 where
  pub holder : Run
  pub listed : Memᴰ holder xs
  pub after : holder.start ≤ k
  pub before : k < holder.end

-- the maximal runs, and they hold every tick that has P
pub record Complete (P : ℕ → Type 0) (from to : ℕ) (xs : List Run) : Type 0 where
  pub runs : Runs P from to xs
  pub covers : (k : ℕ) → from ≤ k → k < to → P k → Held xs k

-- the maximal runs that were found from `from` up to tick `at`, where the next search starts
pub record Scanned (P : ℕ → Type 0) (from to at : ℕ) (xs : List Run) : Type 0 where
  pub each : (x : Run) → Memᴰ x xs → Maximal P from to x.start x.end
  pub before : (x : Run) → Memᴰ x xs → x.end ≤ at
  pub all : (x : Run) → Maximal P from to x.start x.end → x.start < at → Memᴰ x xs
  pub rising : Rising (λ (x : Run). x.start) xs
  pub covers : (k : ℕ) → from ≤ k → k < at → P k → Held xs k
  pub lower : from ≤ at
  pub cut : (k : ℕ) → from ≤ k → suc k ≡ at → at < to → P k → P at → ⊥

module _ {P : ℕ → Type 0} {from to : ℕ} where
  -- of two maximal runs the earlier one ends before the later one starts: they do not touch
  pub apart : {s e s' e' : ℕ} → Maximal P from to s e → Maximal P from to s' e' → s < s' → e < s'
  apart {s} {e} {s'} m n h = elim (dec_le s' e) [
    | yes k ↦ absurd (n.left (pred s') (omega (arith, m.lower)) (omega arith) (m.holds (pred s') (omega arith) (omega arith)))
    | no k ↦ omega arith
  ]

  -- a maximal run has one end
  ends : {s e e' : ℕ} → Maximal P from to s e → Maximal P from to s e' → e ≤ e'
  ends {s} {e} {e'} m n = elim (dec_le e e') [ yes k ↦ k | no k ↦ absurd (n.right (omega (arith, m.upper)) (m.holds e' (omega (arith, n.some)) (omega arith))) ]

  one_end : {x y : Run} → Maximal P from to x.start x.end → Maximal P from to y.start y.end → x.start ≡ y.start → x ≡ y
  one_end {x} {y} m n e =
      let m' : Maximal P from to y.start x.end = subst (λ (k : ℕ). Maximal P from to k x.end) e m in
      let q : x.end ≡ y.end = omega (arith, ends m' n, ends n m') in
      λ i. record { start = e i; end = q i }

  -- THE LIST, RUN BY RUN

  pub scanned_none : Scanned P from to from []
  scanned_none = record {
    each = λ x m. absurd (Memᴰ.not-nil m);
    before = λ x m. absurd (Memᴰ.not-nil m);
    all = λ x m h. absurd (early x m h);
    rising = none;
    covers = λ k a b _. absurd (nothing k a b);
    lower = omega arith;
    cut = λ k h e _ _ _. omega arith;
  }
    where
      nothing : (k : ℕ) → from ≤ k → k < from → ⊥
      nothing k a b = omega arith

      early : (x : Run) → Maximal P from to x.start x.end → x.start < from → ⊥
      early x m h = omega (arith, m.lower)

  -- a tick at which P fails is passed over
  scanned_skip : {at : ℕ} {xs : List Run} → Scanned P from to at xs → (P at → ⊥) → Scanned P from to (suc at) xs
  scanned_skip {at} {xs} s n = record {
    each = s.each;
    before = λ x m. let h = s.before x m in omega arith;
    all = λ x m h. s.all x m (late x m h);
    rising = s.rising;
    covers = λ k a b p. elim (ℕ_discrete k at) [ yes e ↦ absurd (n (subst P e p)) | no d ↦ s.covers k a (omega arith) p ];
    lower = let h = s.lower in omega arith;
    cut = λ k _ e _ p _. n (subst P (omega arith) p);
  }
    where
      late : (x : Run) → Maximal P from to x.start x.end → x.start < suc at → x.start < at
      late x m h = elim (ℕ_discrete x.start at) [ yes e ↦ absurd (n (subst P e (m.holds x.start (omega arith) m.some))) | no d ↦ omega arith ]

  -- the first run from `at` on is the next maximal run
  pub scanned_more : {at : ℕ} {xs : List Run} {x : Run} → Scanned P from to at xs → FirstRun P at to x.start x.end → Scanned P from to x.end (xs ++ (x ∷ []))
  scanned_more {at} {xs} {x} s f = record {
    each = λ y m. ⊎_elim (s.each y) (λ q. let e : y ≡ x = Memᴰ.eq_of_singleton q in rw e whole) (Memᴰ.append_cases xs m);
    before = λ y m. ⊎_elim (λ q. let h = s.before y q in omega (arith, f.ahead, f.some)) (λ q. let e : y ≡ x = Memᴰ.eq_of_singleton q in rw e (omega arith)) (Memᴰ.append_cases xs m);
    all = found;
    rising = rising_last xs x (λ y m. let h = s.before y m in omega (arith, f.ahead, (s.each y m).some)) s.rising;
    covers = λ k a b p. elim (dec_le at k) [
      | no q ↦ held_more (s.covers k a (omega arith) p)
      | yes q ↦ record { holder = x; listed = Memᴰ.append_right xs (Memᴰ.head refl); after = reached k q p; before = b }
    ];
    lower = omega (arith, s.lower, f.ahead, f.some);
    cut = λ k _ _ h _ p. f.right h p;
  }
    where
      whole : Maximal P from to x.start x.end
      whole = record {
        lower = omega (arith, s.lower, f.ahead);
        some = f.some;
        upper = f.upper;
        holds = f.holds;
        left = λ k a e p. elim (dec_le at k) [
          | yes h ↦ f.silent k h (omega arith) p
          | no h ↦ s.cut k a (omega (arith, f.ahead)) (omega (arith, f.ahead, f.some, f.upper)) p (f.holds at (omega (arith, f.ahead)) (omega (arith, f.ahead, f.some)))
        ];
        right = f.right;
      }

      reached : (k : ℕ) → at ≤ k → P k → x.start ≤ k
      reached k q p = elim (dec_le x.start k) [ yes h ↦ h | no h ↦ absurd (f.silent k q (omega arith) p) ]

      held_more : {k : ℕ} → Held xs k → Held (xs ++ (x ∷ [])) k
      held_more h = record { holder = h.holder; listed = Memᴰ.append_left (x ∷ []) h.listed; after = h.after; before = h.before }

      found : (y : Run) → Maximal P from to y.start y.end → y.start < x.end → Memᴰ y (xs ++ (x ∷ []))
      found y m h = elim (dec_le at y.start) [
        | no k ↦ Memᴰ.append_left (x ∷ []) (s.all y m (omega arith))
        | yes k ↦ Memᴰ.append_right xs (Memᴰ.head (one_end m whole (omega (arith, early k, late))))
      ]
        where
          early : at ≤ y.start → x.start ≤ y.start
          early k = elim (dec_le x.start y.start) [ yes q ↦ q | no q ↦ absurd (f.silent y.start k (omega arith) (m.holds y.start (omega arith) m.some)) ]

          late : y.start ≤ x.start
          late = elim (dec_le y.start x.start) [ yes q ↦ q | no q ↦ absurd (after (apart whole m (omega arith))) ]
            where
              after : x.end < y.start → ⊥
              after q = omega arith

  -- where nothing more is found, these are the maximal runs in rising time, and they hold every tick that has P
  pub scanned_all : {at : ℕ} {xs : List Run} → Scanned P from to at xs → ((k : ℕ) → at ≤ k → k < to → P k → ⊥) → Complete P from to xs
  scanned_all {at} {xs} s n = record {
    runs = record { each = s.each; all = λ x m. s.all x m (soon x m); rising = s.rising };
    covers = λ k a b p. elim (dec_le at k) [ yes h ↦ absurd (n k h b p) | no h ↦ s.covers k a (omega arith) p ];
  }
    where
      soon : (x : Run) → Maximal P from to x.start x.end → x.start < at
      soon x m = elim (dec_le at x.start) [ no k ↦ omega arith | yes k ↦ absurd (n x.start k (omega (arith, m.some, m.upper)) (m.holds x.start (omega arith) m.some)) ]

-- THERE IS ONE SUCH LIST

-- the maximal runs in rising time are one list
pub runs_unique : {P : ℕ → Type 0} {from to : ℕ} {xs ys : List Run} → Runs P from to xs → Runs P from to ys → xs ≡ ys
runs_unique {xs = xs} {ys = ys} a b =
    same_members xs ys a.rising b.rising (λ x m. b.all x (a.each x m)) (λ x m. a.all x (b.each x m))

-- runs found up to some tick are the first of all
pub scanned_first : {P : ℕ → Type 0} {from to at : ℕ} {xs ys : List Run} → Scanned P from to at xs → Runs P from to ys → (zs : List Run) × (ys ≡ xs ++ zs)
scanned_first {xs = xs} {ys = ys} s r =
    first_of xs ys s.rising r.rising (λ x m. r.all x (s.each x m))
    (λ y x m n h. s.all y (r.each y m) (let a = (s.each x n).some in let b = s.before x n in omega arith))

-- THE LIST, COMPUTED FROM A TEST

-- an open run s to at, if it is one, before xs
closed : ℕ → ℕ → List Run → List Run
closed s at xs = cond (ltb s at) (run s at ∷ xs) xs

-- the runs in n ticks from `at` on, where the ticks s to at - 1 are an open run
walk : (ℕ → Bool) → ℕ → ℕ → ℕ → List Run
unfolding closed run
walk test zero s at = closed s at []
walk test (suc n) s at = elim (test at) [ true ↦ walk test n s (suc at) | false ↦ closed s at (walk test n (suc at) (suc at)) ]

unfoldable pub runs_of : (ℕ → Bool) → ℕ → ℕ → List Run
unfolding walk
runs_of test from to = walk test (to - from) from from

then_rest : (t : Bool) (xs : List Run) (x : Run) (rest : List Run) → (xs ++ cond t (x ∷ []) []) ++ rest ≡ xs ++ cond t (x ∷ rest) rest
then_rest true xs x rest = append_assoc xs (x ∷ []) rest
then_rest false xs x rest = rw append-nil

module _ {P : ℕ → Type 0} {from to : ℕ} where
  -- an open run that ends at `at` is the next one, if it is one
  shut : {s at : ℕ} {xs : List Run} → Scanned P from to s xs → s ≤ at → ((k : ℕ) → s ≤ k → k < at → P k) → at ≤ to → (at < to → P at → ⊥)
      → (t : Bool) → ltb s at ≡ t → Scanned P from to at (xs ++ cond t (run s at ∷ []) [])
  unfolding run
  shut {s} {at} c h p u n true e =
      scanned_more c (record { ahead = omega arith; some = ltb-true s at e; upper = u; silent = λ k a b. absurd (nothing k a b); holds = p; right = n })
    where
      nothing : (k : ℕ) → s ≤ k → k < s → ⊥
      nothing k a b = omega arith
  shut {s} {at} {xs} c h p u n false e = rw append-nil (subst (λ (k : ℕ). Scanned P from to k xs) (omega (arith, ltb-false s at e)) c)

  walk_runs : (test : ℕ → Bool) → ((k : ℕ) → (test k ≡ true) ↔ P k)
      → (n s at : ℕ) (xs : List Run) → n + at ≡ to → Scanned P from to s xs → s ≤ at → ((k : ℕ) → s ≤ k → k < at → P k)
      → Complete P from to (xs ++ walk test n s at)
  unfolding walk closed
  walk_runs test tests zero s at xs e c h p =
      scanned_all (shut c h p (omega arith) (λ a. absurd (past a)) (ltb s at) refl) (λ k a b _. omega arith)
    where
      past : at < to → ⊥
      past a = omega arith
  walk_runs test tests (suc n) s at xs e c h p =
      go (walk_runs test tests n s (suc at) xs (omega arith) c (omega arith))
      (λ ys c'. walk_runs test tests n (suc at) (suc at) ys (omega arith) c' (omega arith) (λ k a b. absurd (empty k a b)))
      (test at) refl
    where
      empty : (k : ℕ) → suc at ≤ k → k < suc at → ⊥
      empty k a b = omega arith

      go : (((k : ℕ) → s ≤ k → k < suc at → P k) → Complete P from to (xs ++ walk test n s (suc at)))
          → ((ys : List Run) → Scanned P from to (suc at) ys → Complete P from to (ys ++ walk test n (suc at) (suc at)))
          → (t : Bool) → test at ≡ t
          → Complete P from to (xs ++ elim t [ true ↦ walk test n s (suc at) | false ↦ closed s at (walk test n (suc at) (suc at)) ])
      go on new true q = on (λ k a b. elim (ℕ_discrete k at) [ yes z ↦ subst P (sym z) ((tests at).0 q) | no z ↦ p k a (omega arith) ])
      go on new false q =
          rw (← then_rest (ltb s at) xs (run s at) (walk test n (suc at) (suc at)))
          (new (xs ++ cond (ltb s at) (run s at ∷ []) []) (scanned_skip (shut c h p (omega arith) (λ _. fails) (ltb s at) refl) fails))
        where
          fails : P at → ⊥
          fails w = let v = (tests at).1 w in let z : ◌≡◌ {A = ℕ} 0 1 = cc in omega arith

-- the list that a test of P gives is the list of the maximal runs
pub runs_of_lem : {P : ℕ → Type 0} (test : ℕ → Bool) → ((k : ℕ) → (test k ≡ true) ↔ P k) → (from to : ℕ) → Complete P from to (runs_of test from to)
unfolding runs_of walk closed
runs_of_lem {P} test tests from to = elim (dec_le from to) [
  | yes h ↦ walk_runs test tests (to - from) from from [] (omega arith) scanned_none (omega arith) (λ k a b. absurd (empty k a b))
  | no h ↦ subst (λ (n : ℕ). Complete P from to (walk test n from from)) (nought h) (none_at (ltb from from) refl (scanned_all scanned_none (λ k a b _. omega arith)))
]
  where
    empty : (k : ℕ) → from ≤ k → k < from → ⊥
    empty k a b = omega arith

    nought : (from ≤ to → ⊥) → 0 ≡ to - from
    nought h = omega arith

    none_at : (t : Bool) → ltb from from ≡ t → Complete P from to [] → Complete P from to (cond t (run from from ∷ []) [])
    none_at true e r = absurd (empty from (omega arith) (ltb-true from from e))
    none_at false e r = r

-- a tick of from..to has P exactly if some run holds it
pub covered : {P : ℕ → Type 0} {from to : ℕ} {xs : List Run} (test : ℕ → Bool) → ((k : ℕ) → (test k ≡ true) ↔ P k) → Runs P from to xs
    → (k : ℕ) → from ≤ k → k < to → P k ↔ Held xs k
covered {P} {from} {to} test tests r k a b =
    let w = runs_of_lem test tests from to in (
      λ p. subst (λ (l : List Run). Held l k) (runs_unique w.runs r) (w.covers k a b p),
      λ h. (r.each h.holder h.listed).holds k h.after h.before,
    )
