-- The results of drills come to something, and to one thing: one result for each drill, and one content of each buffer.
use mathlib.Core.Path.{◌≡◌, refl, ap, subst}
use mathlib.Core.List.{List, [], ◌∷◌}
use Prim.Native.Nat.{ℕ, suc}
use lib.IntN.{ℤ}
use lib.ListN.{length}
use Rattle.finder.proofs.Demands.{some_result_within, one_result_within}
use Rattle.results.specs.Results.{purse, ResultAs, Results, Results.none, Results.next}

-- one drill's result, with the same rounds told and the same buffers before it
pub result_unique : {bytes text r s : List ℕ} {told : ℕ} {answer work a w b v : List ℤ} → ResultAs bytes text told answer work r a w
    → ResultAs bytes text told answer work s b v → (r ≡ s) × (a ≡ b) × (w ≡ v)
result_unique p q =
    let u = one_result_within p.call q.call in
    let o = u.0 in
    let c = u.2 in
    let x = p.prints in
    let y = q.prints in
    (cc, c, u.3)

-- The results of all drills are one thing ..
pub results_unique : {bytes : List ℕ} {answer answer₁ work work₁ a w b v : List ℤ} {ds rs ss : List (List ℕ)} → answer ≡ answer₁ → work ≡ work₁
    → Results bytes answer work ds rs a w → Results bytes answer₁ work₁ ds ss b v → (rs ≡ ss) × (a ≡ b) × (w ≡ v)
results_unique e f none none = (refl, e, f)
results_unique {bytes} {answer} {answer₁} {work} {work₁} e f (next {a = a} {w} {d = d} {r} h t) (next i u) =
    let g = subst (λ (x : List ℤ). ResultAs bytes d purse answer₁ x r a w) f (subst (λ (x : List ℤ). ResultAs bytes d purse x work r a w) e h) in
    let one = result_unique g i in
    let more = results_unique one.1 one.2 t u in
    let x = one.0 in
    let y = more.0 in
    (cc, more.1, more.2)

-- .. and there are some.
pub result_exists : (bytes drill : List ℕ) (told : ℕ) (answer work : List ℤ)
    → (result : List ℕ) × (answer' : List ℤ) × (work' : List ℤ) × ResultAs bytes drill told answer work result answer' work'
result_exists bytes drill told answer work =
    let c = some_result_within bytes drill told answer work in
    (_, c.2, c.3, record { outcome = c.0; left = c.1; call = c.4; prints = refl })

pub results_exist : (bytes : List ℕ) (answer work : List ℤ) (drills : List (List ℕ))
    → (results : List (List ℕ)) × (answer' : List ℤ) × (work' : List ℤ) × Results bytes answer work drills results answer' work'
results_exist bytes answer work [] = ([], answer, work, none)
results_exist bytes answer work (d ∷ ds) =
    let c = result_exists bytes d purse answer work in
    let r = results_exist bytes c.1 c.2 ds in
    (c.0 ∷ r.0, r.1, r.2, next c.3 r.3)

-- They are as many as the drills.
pub results_length : {bytes : List ℕ} {answer work a w : List ℤ} {ds rs : List (List ℕ)} → Results bytes answer work ds rs a w → length rs ≡ length ds
results_length none = refl
results_length (next h t) = ap suc (results_length t)
