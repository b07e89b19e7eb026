-- Tests as facts: what a test that holds says, and when it holds.
use Prim.Native.Nat.{ℕ, zero, suc, ◌<◌}
use native.Mathlib.Omega.{arith}
use mathlib.Core.Path.{◌≡◌, refl, sym}
use mathlib.Core.Logic.{◌⊎◌, inl, inr, ⊎_elim, by_cases}
use mathlib.Core.Bool.{Bool, true, false, ◌||◌, ◌&&◌, false≢true}
use mathlib.Core.List.{List, [], ◌∷◌, ◌++◌, Memᴰ}
use native.Mathlib.Decide.{dec_lt}
use Rattle.text.specs.Bits.{any_below, any_of}

pub or_cases : (a b : Bool) → (a || b) ≡ true → (a ≡ true) ⊎ (b ≡ true)
or_cases true b e = inl refl
or_cases false b e = inr e

pub or_left : (a b : Bool) → a ≡ true → (a || b) ≡ true
or_left a b e = rw e

pub or_right : (a b : Bool) → b ≡ true → (a || b) ≡ true
or_right true b e = refl
or_right false b e = e

pub and_left : (a b : Bool) → (a && b) ≡ true → a ≡ true
and_left true b e = refl
and_left false b e = e

pub and_right : (a b : Bool) → (a && b) ≡ true → b ≡ true
and_right true b e = e
and_right false b e = absurd (false≢true e)

pub and_both : (a b : Bool) → a ≡ true → b ≡ true → (a && b) ≡ true
and_both a b p q = rw p q

-- two tests that hold together are one
pub same_truth : (a b : Bool) → (a ≡ true → b ≡ true) → (b ≡ true → a ≡ true) → a ≡ b
same_truth true b f g = sym (f refl)
same_truth false true f g = g refl
same_truth false false f g = refl

pub not-true-false : (a : Bool) → (a ≡ true → ⊥) → a ≡ false
not-true-false true f = absurd (f refl)
not-true-false false f = refl

-- a member that passes the test
pub record Passing {A : Type 0} (f : A → Bool) (l : List A) : Type 0 where
  pub member : A
  pub listed : Memᴰ member l
  pub passes : f member ≡ true

pub any_of-some : {A : Type 0} (f : A → Bool) (l : List A) → any_of f l ≡ true → Passing f l
unfolding any_of
any_of-some f [] e = absurd (false≢true e)
any_of-some f (a ∷ l) e =
    ⊎_elim
    (λ (h : f a ≡ true). record { member = a; listed = Memᴰ.head refl; passes = h })
    (λ (h : any_of f l ≡ true). further (any_of-some f l h))
    (or_cases (f a) (any_of f l) e)
  where
    further : Passing f l → Passing f (a ∷ l)
    further p = record { member = p.member; listed = Memᴰ.tail p.listed; passes = p.passes }

pub some-any_of : {A : Type 0} (f : A → Bool) (l : List A) {a : A} → Memᴰ a l → f a ≡ true → any_of f l ≡ true
unfolding any_of
some-any_of {A = A} f [] {a = a} m h = elim m [ ]
some-any_of f (b ∷ l) (Memᴰ.head e) h = or_left (f b) (any_of f l) (rw e at h)
some-any_of f (b ∷ l) (Memᴰ.tail m) h = or_right (f b) (any_of f l) (some-any_of f l m h)

-- a number below n that passes the test
pub record Below (f : ℕ → Bool) (n : ℕ) : Type 0 where
  pub index : ℕ
  pub small : index < n
  pub passes : f index ≡ true

pub any_below-some : (f : ℕ → Bool) (n : ℕ) → any_below f n ≡ true → Below f n
unfolding any_below
any_below-some f zero e = absurd (false≢true e)
any_below-some f (suc n) e =
    ⊎_elim
    (λ (h : any_below f n ≡ true). further (any_below-some f n h))
    (λ (h : f n ≡ true). record { index = n; small = omega arith; passes = h })
    (or_cases (any_below f n) (f n) e)
  where
    further : Below f n → Below f (suc n)
    further p = record { index = p.index; small = omega arith; passes = p.passes }

pub some-any_below : (f : ℕ → Bool) (n q : ℕ) → q < n → f q ≡ true → any_below f n ≡ true
unfolding any_below
some-any_below f zero q l h = absurd (let z : ⊥ = omega arith in z)
some-any_below f (suc n) q l h =
    by_cases (dec_lt q n)
    (λ (k : q < n). or_left (any_below f n) (f n) (some-any_below f n q k h))
    (λ (k : ¬ (q < n)). or_right (any_below f n) (f n) (let e : q ≡ n = omega arith in rw e at h))

pub or-false : (a : Bool) → (a || false) ≡ a
or-false true = refl
or-false false = refl

pub or_assoc : (a b c : Bool) → ((a || b) || c) ≡ (a || (b || c))
or_assoc true b c = refl
or_assoc false b c = refl

pub any_of-snoc : {A : Type 0} (f : A → Bool) (l : List A) (a : A) → any_of f (l ++ (a ∷ [])) ≡ (any_of f l || f a)
unfolding any_of
any_of-snoc f [] a = or-false (f a)
any_of-snoc f (b ∷ l) a = rw (any_of-snoc f l a) (sym (or_assoc (f b) (any_of f l) (f a)))

pub or_self : (a : Bool) → (a || a) ≡ a
or_self true = refl
or_self false = refl

pub and-true : (a : Bool) → (a && true) ≡ a
and-true true = refl
and-true false = refl

pub and_assoc : (a b c : Bool) → ((a && b) && c) ≡ (a && (b && c))
and_assoc true b c = refl
and_assoc false b c = refl

pub and-false : (a : Bool) → (a && false) ≡ false
and-false true = refl
and-false false = refl

pub and_comm : (a b : Bool) → (a && b) ≡ (b && a)
and_comm true b = sym (and-true b)
and_comm false b = sym (and-false b)
