-- What one variant makes of a fresh start and of carried lengths, as relations: which lengths the bits of a number name, and
-- whether an occurrence ends in the variant.
use Rattle.std.specs.Prelude.{ℕ, ◌-◌, ◌^◌, ◌<◌, ◌≡◌, ◌↔◌, Bool, true, List, ◌++◌, length, take, drop}
use Rattle.text.specs.Text.{Variant}
use Rattle.text.specs.Occurrence.{Prefix, Suffix, Inside}
use Rattle.text.specs.Bits.{bit}
use Rattle.search.specs.Border.{Longest}

-- of the letters s: the longest prefix of P, short of the whole, that ends them, and whether P lies in them
pub record Scans (P s : List ℕ) (longest : ℕ) (whole : Bool) : Type 0 where
  pub ends : Longest P s (length P - 1) longest
  pub inside : (whole ≡ true) ↔ Inside P s

-- the bits of n are exactly the numbers below m that A names
pub record Holds (m : ℕ) (A : ℕ → Type 0) (n : ℕ) : Type 0 where
  pub small : n < 2 ^ m
  pub is : (r : ℕ) → r < m → (bit n r ≡ true) ↔ A r

-- the bits are the lengths below m that A names, and `ends` says whether E
pub record Tells (m : ℕ) (A : ℕ → Type 0) (E : Type 0) (bits : ℕ) (ends : Bool) : Type 0 where
  pub lengths : Holds m A bits
  pub end : (ends ≡ true) ↔ E

-- the variant v after a fresh start: the prefixes of P that end it, and whether P lies in it
abbrev pub Begins : List ℕ → Variant → ℕ → Bool → Type 0
Begins P v = Tells (length P) (λ r. Suffix (take r P) v) (Inside P v)

-- the variant v after q bases: where it leads to, and whether it has the remaining bases
abbrev pub CarriesOne : List ℕ → ℕ → Variant → ℕ → Bool → Type 0
CarriesOne P q v = Tells (length P) (λ r. take r P ≡ take q P ++ v) (Prefix (drop q P) v)

-- A is true of a length from 1 to below n that the state st carries
pub record Among (st n : ℕ) (A : ℕ → Type 0) : Type 0 where
  pub at : ℕ
  pub some : 0 < at
  pub below : at < n
  pub carried : bit st at ≡ true
  pub is : A at

-- the variant v after the lengths below n that the state st carries
abbrev pub CarriesAll : List ℕ → ℕ → ℕ → Variant → ℕ → Bool → Type 0
CarriesAll P st n v =
    Tells (length P) (λ r. Among st n (λ q. take r P ≡ take q P ++ v)) (Among st n (λ q. Prefix (drop q P) v))
