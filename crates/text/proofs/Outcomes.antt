-- Laws of answers that may refuse: what an acceptance says of the demands before it, and when two answers have the same fate.
use Prim.Native.Nat.{ℕ}
use native.Mathlib.Omega.{arith}
use mathlib.Core.Path.{◌≡◌, refl, sym}
use mathlib.Core.Bool.{Bool, true, false}
use Rattle.text.specs.Refusal.{Outcome, ok, refused, demand, after, answer}

-- both accept with the same value, or both refuse, whatever the numbers and places
abbrev pub SameFate : {A : Type 0} → Outcome A → Outcome A → Type 0
SameFate (ok a) (ok b) = a ≡ b
SameFate (ok a) (refused n p) = ⊥
SameFate (refused n p) (ok b) = ⊥
SameFate (refused n p) (refused m q) = Unit {0}

pub refused-ok : {A : Type 0} (n p : ℕ) (a : A) → refused n p ≡ ok a → ⊥
refused-ok n p a e = let z : ◌≡◌ {A = ℕ} 0 1 = cc in omega arith

pub ok-inj : {A : Type 0} {a b : A} → ok a ≡ ok b → a ≡ b
ok-inj e = cc

pub refused-inj : {A : Type 0} {n p m q : ℕ} → ◌≡◌ {A = Outcome A} (refused n p) (refused m q) → (n ≡ m) × (p ≡ q)
refused-inj e = (cc, cc)

-- in numbers: a refusal has zeros beside its number and place
pub refused-zeros : {A : Type 0} (zeros : A) (o : Outcome A) (n p : ℕ) → o ≡ refused n p
    → answer zeros o ≡ record { number = n; place = p; value = zeros }
refused-zeros zeros o n p e = rw e

-- an accepted answer has met the demand
pub demand-met : {A : Type 0} (t : Bool) (n p : ℕ) (o : Outcome A) (a : A) → demand t n p o ≡ ok a → (t ≡ true) × (o ≡ ok a)
demand-met true n p o a e = (refl, e)
demand-met false n p o a e = absurd (refused-ok n p a e)

pub after-met : {A B : Type 0} (o : Outcome A) (f : A → Outcome B) (b : B)
    → after o f ≡ ok b → (a : A) × (o ≡ ok a) × (f a ≡ ok b)
after-met (ok a) f b e = (a, refl, e)
after-met (refused n p) f b e = absurd (refused-ok n p b e)

-- what is done after a demand is done after what follows it
pub after-demand : {A B : Type 0} (t : Bool) (n p : ℕ) (o : Outcome A) (f : A → Outcome B)
    → after (demand t n p o) f ≡ demand t n p (after o f)
after-demand true n p o f = refl
after-demand false n p o f = refl

-- two answers that accept on one condition, with one value
pub same-fate : {A C : Type 0} (o k : Outcome A) (z : A)
    → ((a : A) → o ≡ ok a → C) → ((a : A) → k ≡ ok a → C) → (C → o ≡ ok z) → (C → k ≡ ok z) → SameFate o k
same-fate (ok a) (ok b) z f g x y = let p : ok a ≡ ok z = x (f a refl) in let q : ok b ≡ ok z = y (f a refl) in cc
same-fate (ok a) (refused n p) z f g x y = refused-ok n p z (y (f a refl))
same-fate (refused n p) (ok b) z f g x y = refused-ok n p z (x (g b refl))
same-fate (refused n p) (refused m q) z f g x y = tt

pub after-after : {A B C : Type 0} (o : Outcome A) (f : A → Outcome B) (g : B → Outcome C)
    → after (after o f) g ≡ after o (λ a. after (f a) g)
after-after (ok a) f g = refl
after-after (refused n p) f g = refl

-- an answer of which a part is told
pub told-met : {A B : Type 0} (o : Outcome A) (g : A → B) (b : B) → after o (λ a. ok (g a)) ≡ ok b → (a : A) × (o ≡ ok a) × (g a ≡ b)
told-met (ok a) g b e = (a, refl, ok-inj e)
told-met (refused n p) g b e = absurd (refused-ok n p b e)

pub told-refused : {A B : Type 0} (o : Outcome A) (g : A → B) (n p : ℕ) → after o (λ a. ok (g a)) ≡ refused n p → o ≡ refused n p
told-refused (ok a) g n p e = absurd (refused-ok n p (g a) (sym e))
told-refused (refused m q) g n p e = let z : m ≡ n = cc in let y : q ≡ p = cc in cc
