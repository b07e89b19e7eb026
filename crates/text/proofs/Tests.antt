-- Tests and the facts that they stand for, both ways at once.
use Prim.Native.Nat.{ℕ, ◌≤◌, ◌<◌}
use borrow.Author.Tests.{ltb-true, leb-true, eqb-true, lt-ltb, le-leb, eq-eqb}
use mathlib.Core.Path.{◌≡◌, refl, sym}
use mathlib.Core.Logic.{◌↔◌, ◌⊎◌, inl, inr, ⊎_elim}
use mathlib.Core.Bool.{Bool, true, false, ◌||◌, ◌&&◌, beq}
use mathlib.Core.List.{List}
use lib.Dec.{eqb, ltb, leb}
use Rattle.text.specs.Compare.{same}
use Rattle.text.proofs.Truth.{or_cases, or_left, or_right, and_left, and_right, and_both}
use Rattle.text.proofs.Strings.{same-eq, eq-same}

pub lt_test : (m n : ℕ) → (ltb m n ≡ true) ↔ (m < n)
lt_test m n = (ltb-true m n, lt-ltb m n)

pub le_test : (m n : ℕ) → (leb m n ≡ true) ↔ (m ≤ n)
le_test m n = (leb-true m n, le-leb m n)

pub eq_test : (m n : ℕ) → (eqb m n ≡ true) ↔ (m ≡ n)
eq_test m n = (eqb-true m n, eq-eqb m n)

pub same_test : (s t : List ℕ) → (same s t ≡ true) ↔ (s ≡ t)
same_test s t = (same-eq s t, eq-same s t)

pub beq-test : (a b : Bool) → (beq a b ≡ true) ↔ (a ≡ b)
beq-test true true = (λ e. refl, λ e. refl)
beq-test true false = (λ e. sym e, λ e. sym e)
beq-test false true = (λ e. e, λ e. e)
beq-test false false = (λ e. refl, λ e. refl)

pub and-test : {a b : Bool} {A B : Type 0} → (a ≡ true) ↔ A → (b ≡ true) ↔ B → ((a && b) ≡ true) ↔ (A × B)
and-test {a} {b} p q = (λ t. (p.0 (and_left a b t), q.0 (and_right a b t)), λ t. and_both a b (p.1 t.0) (q.1 t.1))

pub or-test : {a b : Bool} {A B : Type 0} → (a ≡ true) ↔ A → (b ≡ true) ↔ B → ((a || b) ≡ true) ↔ (A ⊎ B)
or-test {a} {b} {A} {B} p q = (
  λ t. ⊎_elim (λ (h : a ≡ true). inl (p.0 h)) (λ (h : b ≡ true). inr (q.0 h)) (or_cases a b t),
  λ t. ⊎_elim (λ (h : A). or_left a b (p.1 h)) (λ (h : B). or_right a b (q.1 h)) t,
)
