-- Answers that may refuse, and the order of refusals as a chain of demands.
use Rattle.std.specs.Prelude.{ℕ, ◌<◌, ◌≤◌, ◌≡◌, Bool, true, false, List, leb, ltb, length, Result, Ok, Err}
use Rattle.text.specs.Letter.{base, every, first_not}
use Rattle.text.specs.declared.refusal.Refusal.{Refusal}

-- a value, or document 01's number and place
pub data Outcome (A : Type 0) : Type 0 where
  ok : A → Outcome A
  refused : ℕ → ℕ → Outcome A

-- go on where the test holds; else refuse with number n at place p
abbrev pub demand : {A : Type 0} → Bool → ℕ → ℕ → Outcome A → Outcome A
demand true n p o = o
demand false n p o = refused n p

-- go on with the value; a refusal stays
abbrev pub after : {A B : Type 0} → Outcome A → (A → Outcome B) → Outcome B
after (ok a) f = f a
after (refused n p) f = refused n p

-- what a call says in numbers: 0 at 0 and its value; or the refusal's number and place, and zeros beside them
pub record Answer (A : Type 0) : Type 0 where
  pub number : ℕ
  pub place : ℕ
  pub value : A

abbrev pub answer : {A : Type 0} → A → Outcome A → Answer A
answer zeros (ok a) = record { number = 0; place = 0; value = a }
answer zeros (refused n p) = record { number = n; place = p; value = zeros }

-- the greatest pattern
abbrev pub greatest_pattern : ℕ
greatest_pattern = 64

-- what is asked of a pattern, 1 to 64 bases, before o
unfoldable pub pattern : {A : Type 0} → List ℕ → Outcome A → Outcome A
pattern P o =
    demand (ltb 0 (length P)) 1 0
    (demand (leb (length P) greatest_pattern) 2 0
    (demand (every base P) 3 (first_not base P)
    o))

-- such a pattern
pub record SoundPattern (P : List ℕ) : Type 0 where
  pub some : 0 < length P
  pub short : length P ≤ greatest_pattern
  pub bases : every base P ≡ true

-- what a result tells
abbrev pub outcome : {A : Type 0} → Result A Refusal → Outcome A
outcome (Ok a) = ok a
outcome (Err r) = refused r.number r.place
