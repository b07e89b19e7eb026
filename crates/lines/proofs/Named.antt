-- The marked segments that the lines name: which they are, in which order, and how many.
use Prim.Native.Nat.{ℕ, zero, suc, ◌+◌, ◌<◌}
use native.Mathlib.Omega.{arith}
use mathlib.Core.Path.{◌≡◌, refl}
use mathlib.Core.Logic.{◌⊎◌, inl, inr, ⊎_elim}
use mathlib.Core.Bool.{Bool, true, false, cond}
use mathlib.Core.List.{List, [], ◌∷◌}
use mathlib.Core.List.{Memᴰ}
use borrow.Author.Tests.{eqb-true, eq-eqb}
use lib.Dec.{eqb}
use lib.ListN.{length, get_or}
use Rattle.text.specs.Text.{total}
use Rattle.lines.specs.Answer.{marked_from}
use Rattle.lines.proofs.Marked.{either}
use Rattle.lines.proofs.Screens.{Row}

-- rising order: each number is below all those after it
abbrev pub Rising : List ℕ → Type 0
Rising [] = Unit {0}
Rising (j ∷ js) = ((i : ℕ) → Memᴰ i js → j < i) × Rising js

-- those whose mark is 1
named-cases : (b : Bool) (j i : ℕ) (js : List ℕ) → Memᴰ i (cond b (j ∷ js) js) → ((b ≡ true) × (i ≡ j)) ⊎ Memᴰ i js
named-cases true j i js m = ⊎_elim (λ e. inl (refl, e)) (λ h. inr h) (mathlib.Core.List.Memᴰ.cases_cons m)
named-cases false j i js m = inr m

pub named-is : (j : ℕ) (marks : List ℕ) (i : ℕ) → Memᴰ i (marked_from j marks) → (k : ℕ) × (i ≡ j + k) × (get_or marks k 0 ≡ 1)
unfolding marked_from
named-is j [] i m = absurd (mathlib.Core.List.Memᴰ.not-nil m)
named-is j (x ∷ xs) i m =
    let later : Memᴰ i (marked_from (suc j) xs) → (k : ℕ) × (i ≡ suc j + k) × (get_or xs k 0 ≡ 1) = named-is (suc j) xs i in
    ⊎_elim
    (λ w. let here : i ≡ j + 0 = omega (arith, w.1) in (0, here, eqb-true x 1 w.0))
    (λ w. let h = later w in let there : i ≡ j + suc h.0 = omega (arith, h.1) in (suc h.0, there, h.2))
    (named-cases (eqb x 1) j i (marked_from (suc j) xs) m)

pub is-named : (j : ℕ) (marks : List ℕ) (k : ℕ) → get_or marks k 0 ≡ 1 → Memᴰ (j + k) (marked_from j marks)
unfolding marked_from
is-named j [] k e = absurd (let z : ⊥ = omega arith in z)
is-named j (x ∷ xs) zero e = let here : j + 0 ≡ j = omega arith in rw (eq-eqb x 1 e) (mathlib.Core.List.Memᴰ.head here)
is-named j (x ∷ xs) (suc k) e =
    let same : j + suc k ≡ suc j + k = omega arith in
    let m : Memᴰ (j + suc k) (marked_from (suc j) xs) = mathlib.Core.List.Memᴰ.cast same (is-named (suc j) xs k e) in
    either (eqb x 1) j (marked_from (suc j) xs) (λ (l : List ℕ). Memᴰ (j + suc k) l) (mathlib.Core.List.Memᴰ.tail m) m

pub named-rising : (j : ℕ) (marks : List ℕ) → Rising (marked_from j marks)
unfolding marked_from
named-rising j [] = tt
named-rising j (x ∷ xs) =
    let js : List ℕ = marked_from (suc j) xs in
    let rest : Rising js = named-rising (suc j) xs in
    let above : (i : ℕ) → Memᴰ i js → j < i = λ i m. (let h = named-is (suc j) xs i m in omega (arith, h.1)) in
    either (eqb x 1) j js Rising (above, rest) rest

-- as many as the ones among the marks
pub named_count : (j : ℕ) (marks : List ℕ) → Row marks → total (λ x. x) marks ≡ length (marked_from j marks)
unfolding marked_from total
named_count j [] r = refl
named_count j (zero ∷ xs) r =
    let z : 0 + total (λ x. x) xs ≡ length (marked_from (suc j) xs) = omega (arith, named_count (suc j) xs r.1) in z
named_count j (suc zero ∷ xs) r =
    let z : 1 + total (λ x. x) xs ≡ suc (length (marked_from (suc j) xs)) = omega (arith, named_count (suc j) xs r.1) in z
named_count j (suc (suc x) ∷ xs) r = absurd (let z : ⊥ = omega (arith, r.0) in z)
