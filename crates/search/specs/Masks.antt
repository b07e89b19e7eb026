-- The tables of the search by bit-vectors: a letter vector for each byte.
use Rattle.std.specs.Prelude.{ℕ, ◌-◌, ◌%◌, ◌^◌, ◌<◌, ◌≤◌, ◌≡◌, List, eqb, length, get_or, take}
use Rattle.std.specs.Int.Bits.{bit_xor}
use Rattle.text.specs.Letter.{raised, Classes}
use Rattle.text.specs.Bits.{from_bits}
use Rattle.text.specs.Refusal.{greatest_pattern}

-- the letter vector of c: bit k is set where base k of P is c, for every k below m
unfoldable pub mask_of : List ℕ → ℕ → ℕ
mask_of P c = from_bits (λ k. eqb (get_or P k 0) c) (length P)

-- the bases that a word has bits for: of a pattern over 64 bytes the first 64
unfoldable pub bases : List ℕ → List ℕ
bases P = take greatest_pattern P

-- a table with the letter vector of what each byte means
pub record Masks (P table : List ℕ) : Type 0 where
  pub full : length table ≡ 256
  pub each : (c : ℕ) → c < 256 → get_or table c 0 ≡ mask_of P (raised c)

-- the complement of a word
abbrev pub others : ℕ → ℕ
others a = (2 ^ 64 - 1) - a

-- a table with the complement of these letter vectors
pub record Others (P table : List ℕ) : Type 0 where
  pub full : length table ≡ 256
  pub each : (c : ℕ) → c < 256 → get_or table c 0 ≡ others (mask_of P (raised c))

-- either table, as it is filled: the bits of the letter vectors are turned in blank words
pub record Filled (blank : ℕ) (P table : List ℕ) : Type 0 where
  pub full : length table ≡ 256
  pub each : (c : ℕ) → c < 256 → get_or table c 0 ≡ bit_xor blank (mask_of P (raised c))

-- a state of P: below 2 ^ m, and an occurrence may start afresh
pub record StateOf (P : List ℕ) (st : ℕ) : Type 0 where
  pub small : st < 2 ^ length P
  pub odd : st % 2 ≡ 1

-- what a scan may rest on: a pattern of 1 to 64 bases with its tables, and one of its states
pub record Ready (P masks classes : List ℕ) (st : ℕ) : Type 0 where
  pub some : 0 < length P
  pub short : length P ≤ 64
  pub vectors : Others P masks
  pub letters : Classes classes
  pub state : StateOf P st
