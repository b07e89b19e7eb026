-- The refusals of the calls have numbers from 1 to 17 and places up to 32,768. So one number holds both, 0 is left for "accepted", and
-- C takes the number apart.
use Prim.Native.Nat.{ℕ, ◌/◌, ◌%◌, ◌^◌, ◌≤◌, ◌<◌}
use native.Mathlib.Omega.{arith}
use mathlib.Core.Path.{◌≡◌, refl, subst}
use mathlib.Core.Logic.{◌↔◌}
use mathlib.Core.Bool.{Bool, true, false, cond}
use mathlib.Core.List.{List}
use borrow.Author.Tests.{leb-true}
use lib.Dec.{leb, ltb}
use lib.ListN.{length}
use Rattle.text.specs.declared.strand.Strand.{Strand}
use Rattle.text.specs.Card.{none}
use Rattle.text.specs.Letter.{base, every, first_not}
use Rattle.text.specs.State.{is_state}
use Rattle.text.specs.Strand.{on_strand}
use Rattle.text.specs.Refusal.{Outcome, ok, refused, demand, after, pattern, greatest_pattern}
use Rattle.text.proofs.Letters.{first-le}
use Rattle.text.proofs.Outcomes.{refused-ok, told-refused}
use Rattle.layout.specs.Bytes.{greatest_stretch}
use Rattle.layout.specs.Reading.{stretch_of, segment_of, lone_segment}
use Rattle.stretch.specs.Answers.{checking}
use Rattle.layout.proofs.Refusals.{Low, stretch-low, segment-low}
use Rattle.search.specs.Answers.{entering, into, stretch_into, searching, seeking, feeding}
use Rattle.search.specs.First.{ends_in, first_in, hitting, firsting}
use Rattle.cerantuh.specs.Forms.{coded, with_room, searching_into, seeking_into, feeding_into, firsting_into}

-- such a number and place
pub record Small (n p : ℕ) : Type 0 where
  pub some : 1 ≤ n
  pub number : n ≤ 17
  pub place : p ≤ greatest_stretch

-- a refusal is small
abbrev pub Coded : {A : Type 0} → Outcome A → Type 0
Coded (ok a) = Unit {0}
Coded (refused n p) = Small n p

pub demand-coded : {A : Type 0} (t : Bool) (n p : ℕ) (o : Outcome A) → Small n p → (t ≡ true → Coded o) → Coded (demand t n p o)
demand-coded true n p o low k = k refl
demand-coded false n p o low k = low

pub after-coded : {A B : Type 0} (o : Outcome A) (f : A → Outcome B) → Coded o → ((a : A) → Coded (f a)) → Coded (after o f)
after-coded (ok a) f k h = h a
after-coded (refused n p) f k h = k

pattern-coded : (P : List ℕ) {A : Type 0} (o : Outcome A) → Coded o → Coded (pattern P o)
unfolding pattern
pattern-coded P o k =
    demand-coded (ltb 0 (length P)) 1 0 _ (omega arith) λ _.
    demand-coded (leb (length P) greatest_pattern) 2 0 _ (omega arith) λ short.
    let in64 : length P ≤ greatest_pattern = leb-true (length P) greatest_pattern short in
    let place : Small 3 (first_not base P) = omega (arith, first-le base P) in
    demand-coded (every base P) 3 (first_not base P) _ place λ _.
    k

low-coded : {A : Type 0} (o : Outcome A) → ((n p : ℕ) → o ≡ refused n p → Low n p) → Coded o
low-coded (ok a) h = tt
low-coded (refused n p) h = omega (arith, h n p refl)

-- a stretch whose marks go into a buffer
into-coded : (s : List ℕ) (room : ℕ) → Coded (stretch_into s room)
unfolding into
into-coded s room =
    after-coded (stretch_of s) _ (low-coded (stretch_of s) (stretch-low s)) λ t. demand-coded (leb (length t) room) 10 0 (ok t)
    (omega arith) (λ _. tt)

pub searching-coded : (P s : List ℕ) (room : ℕ) → Coded (searching P s room)
unfolding searching
searching-coded P s room = pattern-coded P _ (into-coded s room)

entering-coded : (P : List ℕ) (st : ℕ) (s : List ℕ) {A : Type 0} (o : Outcome A) → (leb (length s) greatest_stretch ≡ true → Coded o)
    → Coded (entering P st s o)
unfolding entering
entering-coded P st s o k =
    pattern-coded P _
    (demand-coded (leb (length s) greatest_stretch) 4 0 _ (omega arith) λ fit.
    demand-coded (is_state (length P) st) 17 0 o (omega arith) λ _.
    k fit)

pub seeking-coded : (P : List ℕ) (st : ℕ) (s : List ℕ) (room : ℕ) → Coded (seeking P st s room)
unfolding seeking
seeking-coded P st s room = entering-coded P st s _ (λ _. into-coded s room)

feeding-coded : (P : List ℕ) (strand : Strand) (st : ℕ) (s : List ℕ) → Coded (feeding P strand st s)
unfolding feeding segment_of
feeding-coded P strand st s =
    entering-coded P st s _ λ fit.
    let alone : segment_of s ≡ lone_segment s = rw fit in
    after-coded (lone_segment s) _ (subst Coded alone (low-coded (segment_of s) (segment-low s))) (λ g. tt)

either-coded : {A : Type 0} (b : Bool) (a : A) (o : Outcome A) → Coded o → Coded (cond b (ok a) o)
either-coded true a o k = tt
either-coded false a o k = k

-- a hit refuses nothing, and without one the stretch decides
firsting-coded : (P : List ℕ) (strand : Strand) (st : ℕ) (s : List ℕ) → Coded (firsting P strand st s)
unfolding firsting hitting
firsting-coded P strand st s =
    let read : List ℕ = on_strand strand P in
    entering-coded P st s _ λ _.
    either-coded (ltb (first_in read st s) none) (ends_in (first_in read st s)) _
    (after-coded (stretch_of s) _ (low-coded (stretch_of s) (stretch-low s)) (λ t. tt))

-- with the room of the results asked too
with-room-coded : {A : Type 0} (bytes block : ℕ) (o : Outcome A) → Coded o → Coded (with_room bytes block o)
with-room-coded bytes block o k = after-coded o _ k (λ a. demand-coded (leb bytes block) 10 0 (ok a) (omega arith) (λ _. tt))

pub search-form-coded : (P s : List ℕ) (marks block : ℕ) → Coded (searching_into P s marks block)
unfolding searching_into
search-form-coded P s marks block = with-room-coded 24 block (searching P s marks) (searching-coded P s marks)

pub from-form-coded : (P : List ℕ) (st : ℕ) (s : List ℕ) (marks block : ℕ) → Coded (seeking_into P st s marks block)
unfolding seeking_into
from-form-coded P st s marks block = with-room-coded 32 block (seeking P st s marks) (seeking-coded P st s marks)

pub feed-form-coded : (P : List ℕ) (strand : Strand) (st : ℕ) (s : List ℕ) (block : ℕ) → Coded (feeding_into P strand st s block)
unfolding feeding_into
feed-form-coded P strand st s block = with-room-coded 16 block (feeding P strand st s) (feeding-coded P strand st s)

pub first-form-coded : (P : List ℕ) (strand : Strand) (st : ℕ) (s : List ℕ) (block : ℕ) → Coded (firsting_into P strand st s block)
unfolding firsting_into
first-form-coded P strand st s block = with-room-coded 16 block (firsting P strand st s) (firsting-coded P strand st s)

-- so is each
pub refused-small : {A : Type 0} (o : Outcome A) (n p : ℕ) → Coded o → o ≡ refused n p → Small n p
refused-small o n p k e = subst Coded e k

pub pattern-small : (P : List ℕ) (n p : ℕ) → pattern P (ok (tt {0})) ≡ refused n p → Small n p
pattern-small P n p e = refused-small (pattern P (ok tt)) n p (pattern-coded P (ok tt) tt) e

pub checking-small : (s : List ℕ) (n p : ℕ) → checking s ≡ refused n p → Small n p
unfolding checking
checking-small s n p e = omega (arith, stretch-low s n p (told-refused (stretch_of s) _ n p e))

pub feeding-small : (P : List ℕ) (strand : Strand) (st : ℕ) (s : List ℕ) (n p : ℕ) → feeding P strand st s ≡ refused n p → Small n p
feeding-small P strand st s n p e = refused-small (feeding P strand st s) n p (feeding-coded P strand st s) e

pub firsting-small : (P : List ℕ) (strand : Strand) (st : ℕ) (s : List ℕ) (n p : ℕ) → firsting P strand st s ≡ refused n p → Small n p
firsting-small P strand st s n p e = refused-small (firsting P strand st s) n p (firsting-coded P strand st s) e

-- the answer fits its 64 bits
pub coded-fits : {A : Type 0} (o : Outcome A) → Coded o → coded o < 2 ^ 64
coded-fits (ok a) k = omega arith
coded-fits (refused n p) k = omega (arith, k)

-- and tells number and place
pub coded-apart : {A : Type 0} (o : Outcome A) (n p : ℕ) → Coded o → o ≡ refused n p → (coded o % 256 ≡ n) × (coded o / 256 ≡ p)
coded-apart o n p k e = let s = refused-small o n p k e in rw e (omega (arith, s), omega (arith, s))

-- 0 is said exactly when the call is accepted
pub coded-zero : {A : Type 0} (o : Outcome A) → Coded o → (coded o ≡ 0) ↔ ((a : A) × (o ≡ ok a))
coded-zero (ok a) k = (λ _. (a, refl), λ _. refl)
coded-zero (refused n p) k = (λ e. absurd (let z : ⊥ = omega (arith, k) in z), λ x. absurd (refused-ok n p x.0 x.1))
