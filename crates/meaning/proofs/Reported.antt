-- Before its first report a channel has no level: neither letter fits there, and `(a|!a)*` fits exactly what is reported throughout.
use mathlib.Core.Path.{◌≡◌, subst}
use mathlib.Core.Logic.{◌↔◌, ◌⊎◌, inl, inr, ⊎_map, ⊎_elim}
use mathlib.Core.List.{List}
use Prim.Native.Nat.{ℕ, zero, suc, ◌≤◌, ◌<◌}
use native.Mathlib.Omega.{arith}
use Rattle.limit.specs.Time.{Time, at_tick, ◌≤ᵀ◌, ◌<ᵀ◌, ◌≈ᵀ◌}
use Rattle.limit.proofs.Times.{≤-refl, ≤_trans, ≤-total, <-≤, ≈-≤, ≤-≈, ≈-refl, tick-≤}
use Rattle.zone.specs.Zone.{Stretch}
use Rattle.star.specs.Pieces.{Pieces, Pieces.none, Pieces.more}
use Rattle.recording.specs.Reading.{ticks, IsRecording}
use Rattle.recording.specs.Changes.{begins}
use Rattle.recording.specs.declared.Dimensions.{Dimensions}
use Rattle.runs.proofs.Levels.{since, reported}
use Rattle.expression.specs.declared.Sign.TheVariants.{High, Low}
use Rattle.expression.specs.declared.Join.TheVariants.{Union}
use Rattle.expression.specs.declared.Unary.TheVariants.{Star}
use Rattle.expression.specs.Expression.{literal, join, unary}
use Rattle.meaning.specs.Satisfies.{Throughout}
use Rattle.meaning.specs.Fits.{Fits}
use Rattle.limit.proofs.Strict.{≤-<-trans, <-≤-trans, tick-<, floor, floor-≤, floor-<}

-- what holds only in the ticks from..to holds throughout a stretch only inside them
throughout_inside : {P : ℕ → Type 0} {from to : ℕ} → ((n : ℕ) → P n → (from ≤ n) × (n < to)) → {x y : Time} → Throughout P x y → Stretch from to x y
throughout_inside {P} {from} {to} only {x} {y} h = (≤_trans (tick-≤ first.0) (floor-≤ x), <-≤ h.some, ⊎_elim (λ q. q) (λ q. absurd (beyond q)) (≤-total y (at_tick to)))
  where
    first : (from ≤ floor x) × (floor x < to)
    first = only (floor x) (h.each (floor x) (floor-< x) (≤-<-trans (floor-≤ x) h.some))

    beyond : at_tick to <ᵀ y → ⊥
    beyond q = let l = (only to (h.each to (<-≤-trans (floor-< x) (tick-≤ (let f = first.1 in omega arith))) q)).1 in omega arith

-- what holds in a tick holds throughout each stretch inside it
throughout_tick : {P : ℕ → Type 0} (n : ℕ) → P n → {x y : Time} → at_tick n ≤ᵀ x → x <ᵀ y → y ≤ᵀ at_tick (suc n) → Throughout P x y
throughout_tick {P} n p a h b = record {
  some = h;
  each = λ m c d. let e : n ≡ m = (let f = tick-< (≤-<-trans a c) in let g = tick-< (<-≤-trans d b) in omega arith) in subst P e p;
}

-- P or Q holds exactly in the ticks from..to
module _ {P Q : ℕ → Type 0} {from to : ℕ} (either : (n : ℕ) → (P n ⊎ Q n) ↔ ((from ≤ n) × (n < to))) where
  abbrev Piece : Time → Time → Type 0
  Piece x y = Throughout P x y ⊎ Throughout Q x y

  piece_inside : {x y : Time} → Piece x y → Stretch from to x y
  piece_inside p = ⊎_elim (throughout_inside (λ n q. (either n).0 (inl q))) (throughout_inside (λ n q. (either n).0 (inr q))) p

  pieces_inside : {n : ℕ} {x y : Time} → Pieces Piece n x y → (x ≈ᵀ y) ⊎ Stretch from to x y
  pieces_inside (none e) = inl e
  pieces_inside (more ps p) =
      let s = piece_inside p in
      inr (⊎_elim (λ e. (≤_trans s.0 (≈-≤ e).1, ≤_trans (≈-≤ e).0 s.1, s.2)) (λ i. (i.0, ≤_trans i.1 s.1, s.2)) (pieces_inside ps))

  -- a stretch up to tick n is cut at the whole ticks in it
  cut_up_to : (n : ℕ) → n ≤ to → {x y : Time} → at_tick from ≤ᵀ x → x ≤ᵀ y → y ≤ᵀ at_tick n → (m : ℕ) × Pieces Piece m x y
  cut_up_to zero h {x} a f b = (0, none (≤-≈ f (≤_trans b (record { le = omega arith }))))
  cut_up_to (suc n) h {x} {y} a f b =
      ⊎_elim (cut_up_to n (omega arith) a f) (λ q. ⊎_elim (λ c. through q c (cut_up_to n (omega arith) a c (≤-refl (at_tick n)))) alone (≤-total x (at_tick n))) (≤-total y (at_tick n))
    where
      -- a part of tick n
      piece : {t : Time} → at_tick from ≤ᵀ t → at_tick n ≤ᵀ t → t <ᵀ y → Piece t y
      piece c d e =
          let i = tick-< (≤-<-trans c (<-≤-trans e b)) in
          ⊎_map (λ p. throughout_tick n p d e b) (λ p. throughout_tick n p d e b) ((either n).1 (omega arith, h))

      through : at_tick n <ᵀ y → x ≤ᵀ at_tick n → (m : ℕ) × Pieces Piece m x (at_tick n) → (m : ℕ) × Pieces Piece m x y
      through q c ps = (suc ps.0, more ps.1 (piece (≤_trans a c) (≤-refl (at_tick n)) q))

      alone : at_tick n <ᵀ x → (m : ℕ) × Pieces Piece m x y
      alone c = ⊎_elim (λ e. (0, none (≤-≈ f e))) (λ e. (1, more (none (≈-refl x)) (piece a (<-≤ c) e))) (≤-total y x)

  pieces_exactly : (x y : Time) → ((n : ℕ) × Pieces Piece n x y) ↔ ((x ≈ᵀ y) ⊎ Stretch from to x y)
  pieces_exactly x y = (λ h. pieces_inside h.1, ⊎_elim (λ e. (0, none e)) (λ s. cut_up_to to (omega arith) s.0 s.1 s.2))

-- of bytes that were read as a recording
module _ {bytes : List ℕ} {size : Dimensions} (read : IsRecording bytes size) where
  -- "neither `a` nor `!a` fits a stretch that overlaps those ticks"
  pub letter_reported : {channel : ℕ} {x y : Time} → Fits bytes (literal High channel) x y ⊎ Fits bytes (literal Low channel) x y → Stretch (begins bytes 1) (ticks bytes) x y
  letter_reported h = ⊎_elim (λ f. throughout_inside (λ n s. since read s) f.1) (λ f. throughout_inside (λ n s. since read s) f.1) h

  -- `(a|!a)*` fits the diagonal, and each stretch from the tick of the first change on.
  pub either_level : (channel : ℕ) (x y : Time)
      → Fits bytes (unary Star (join Union (literal High channel) (literal Low channel))) x y ↔ (Stretch 0 (ticks bytes) x y × ((x ≈ᵀ y) ⊎ (at_tick (begins bytes 1) ≤ᵀ x)))
  either_level channel x y =
      let p = pieces_exactly (reported read channel) x y in
      (λ h. (h.0, ⊎_map (λ e. e) (λ s. s.0) (p.0 h.1)), λ h. (h.0, p.1 (⊎_map (λ e. e) (λ i. (i, h.0.1, h.0.2)) h.1)))
