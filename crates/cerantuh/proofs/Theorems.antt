-- What this crate proves of its calls, theorem by theorem: read this file first. The answers, marks and blocks named here are what the
-- contracts say of the forms, and of the C calls that crate `cerantuh` makes of them.
use Prim.Native.Nat.{ℕ, zero, suc, ◌+◌, ◌*◌, ◌/◌, ◌%◌, ◌^◌, ◌<◌}
use native.Mathlib.Nat.{pow-suc}
use native.Mathlib.Omega.{arith}
use mathlib.Core.Path.{◌≡◌, ap, ◌∙◌}
use mathlib.Core.Logic.{◌↔◌}
use mathlib.Core.Bool.{true}
use mathlib.Core.List.{List}
use lib.ListN.{length}
use Rattle.text.specs.declared.strand.Strand.{Strand}
use Rattle.text.specs.Card.{none}
use Rattle.text.specs.State.{is_state}
use Rattle.text.specs.Text.{Text}
use Rattle.text.specs.Refusal.{ok, refused}
use Rattle.search.specs.Answers.{Next}
use Rattle.search.specs.First.{Hit, ends_in, clear}
use Rattle.cerantuh.specs.Forms.{low_first, low_value, searching_into, search_answer, seeking_into, from_answer, feeding_into, feed_answer}
use Rattle.cerantuh.specs.Forms.{firsting_into, first_answer}
use Rattle.cerantuh.proofs.HitResults.{segment-below, state-handed}
use Rattle.cerantuh.proofs.Codes.{coded-zero, coded-apart, search-form-coded, from-form-coded, feed-form-coded, first-form-coded}

-- a search answers 0 exactly when it is accepted
pub search-zero : (P s marks block : List ℕ)
    → (search_answer P s marks block ≡ 0) ↔ ((t : Text) × (searching_into P s (length marks) (length block) ≡ ok t))
search-zero P s marks block =
    coded-zero (searching_into P s (length marks) (length block)) (search-form-coded P s (length marks) (length block))

-- and from any other answer its number and its place are had by a remainder and a quotient
pub search-apart : (P s marks block : List ℕ) (n p : ℕ) → searching_into P s (length marks) (length block) ≡ refused n p
    → (search_answer P s marks block % 256 ≡ n) × (search_answer P s marks block / 256 ≡ p)
search-apart P s marks block n p e =
    coded-apart (searching_into P s (length marks) (length block)) n p (search-form-coded P s (length marks) (length block)) e

-- the same of a search from a state
pub from_zero : (P : List ℕ) (st : ℕ) (s marks block : List ℕ)
    → (from_answer P st s marks block ≡ 0) ↔ ((t : Text) × (seeking_into P st s (length marks) (length block) ≡ ok t))
from_zero P st s marks block =
    coded-zero (seeking_into P st s (length marks) (length block)) (from-form-coded P st s (length marks) (length block))

pub from-apart : (P : List ℕ) (st : ℕ) (s marks block : List ℕ) (n p : ℕ) → seeking_into P st s (length marks) (length block) ≡ refused n p
    → (from_answer P st s marks block % 256 ≡ n) × (from_answer P st s marks block / 256 ≡ p)
from-apart P st s marks block n p e =
    coded-apart (seeking_into P st s (length marks) (length block)) n p (from-form-coded P st s (length marks) (length block)) e

-- the same of a feed
pub feed-zero : (P : List ℕ) (strand : Strand) (st : ℕ) (s block : List ℕ)
    → (feed_answer P strand st s block ≡ 0) ↔ ((x : Next) × (feeding_into P strand st s (length block) ≡ ok x))
feed-zero P strand st s block = coded-zero (feeding_into P strand st s (length block)) (feed-form-coded P strand st s (length block))

pub feed-apart : (P : List ℕ) (strand : Strand) (st : ℕ) (s block : List ℕ) (n p : ℕ)
    → feeding_into P strand st s (length block) ≡ refused n p
    → (feed_answer P strand st s block % 256 ≡ n) × (feed_answer P strand st s block / 256 ≡ p)
feed-apart P strand st s block n p e =
    coded-apart (feeding_into P strand st s (length block)) n p (feed-form-coded P strand st s (length block)) e

-- the same of the first hit
pub first-zero : (P : List ℕ) (strand : Strand) (st : ℕ) (s block : List ℕ)
    → (first_answer P strand st s block ≡ 0) ↔ ((h : Hit) × (firsting_into P strand st s (length block) ≡ ok h))
first-zero P strand st s block = coded-zero (firsting_into P strand st s (length block)) (first-form-coded P strand st s (length block))

pub first-apart : (P : List ℕ) (strand : Strand) (st : ℕ) (s block : List ℕ) (n p : ℕ)
    → firsting_into P strand st s (length block) ≡ refused n p
    → (first_answer P strand st s block % 256 ≡ n) × (first_answer P strand st s block / 256 ≡ p)
first-apart P strand st s block n p e =
    coded-apart (firsting_into P strand st s (length block)) n p (first-form-coded P strand st s (length block)) e

-- its first result tells a hit from none
pub first-segment : (P : List ℕ) (strand : Strand) (st : ℕ) (s block : List ℕ) (k : ℕ)
    → firsting_into P strand st s (length block) ≡ ok (ends_in k) → k < none
first-segment P strand st s block k e = segment-below P strand st s (length block) k e

-- and the state that it hands on is one: no call with this pattern refuses it, and it is not 0
pub first-state : (P : List ℕ) (strand : Strand) (st : ℕ) (s block : List ℕ) (next : ℕ)
    → firsting_into P strand st s (length block) ≡ ok (clear next)
    → is_state (length P) next ≡ true
first-state P strand st s block next e = state-handed P strand st s (length block) next e

-- the bytes of a number read back as the number
low_value_lem : (k n : ℕ) → n < 256 ^ k → low_value (low_first k n) ≡ n
unfolding low_first low_value
low_value_lem zero n l = omega (arith, l)
low_value_lem (suc k) n l =
    let high : n / 256 < 256 ^ k = omega (arith, l, pow-suc 256 k) in
    let e : low_value (low_first k (n / 256)) ≡ n / 256 = low_value_lem k (n / 256) high in
    ap (λ (x : ℕ). n % 256 + 256 * x) e ∙ omega arith

pub result_value : (n : ℕ) → n < 2 ^ 64 → low_value (low_first 8 n) ≡ n
result_value n l = low_value_lem 8 n l
