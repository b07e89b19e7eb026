-- The letter vectors of lower case, copied from those of upper case once the pattern is entered byte by byte.
use Prim.Native.Nat.{ℕ, ◌<◌}
use native.Mathlib.Decide.{ℕ_discrete}
use native.Mathlib.Omega.{arith}
use mathlib.Core.Path.{◌≡◌, refl, ◌∙◌}
use mathlib.Core.Logic.{by_cases}
use mathlib.Core.Bool.{cond}
use mathlib.Core.List.{List}
use borrow.Author.Tests.{eq-eqb, ne_eqb}
use lib.Bits.{bit_xor}
use lib.Dec.{eqb, lit<}
use lib.ListN.{length, get_or, set, length-set}
use lib.Seq.{get_or-set_same, get_or-set_other}
use Rattle.text.specs.Letter.{raised}
use Rattle.search.specs.Masks.{mask_of, Filled}

-- a table of blank words in which the letter vector of what f makes of each byte is turned
pub record Listed (f : ℕ → ℕ) (blank : ℕ) (P table : List ℕ) : Type 0 where
  pub full : length table ≡ 256
  pub each : (c : ℕ) → c < 256 → get_or table c 0 ≡ bit_xor blank (mask_of P (f c))

-- the entry of `upper` is copied to `lower`
abbrev copy : List ℕ → ℕ → ℕ → List ℕ
copy table lower upper = set table lower (get_or table upper 0)

abbrev moved : (ℕ → ℕ) → ℕ → ℕ → ℕ → ℕ
moved f lower upper c = cond (eqb c lower) (f upper) (f c)

copied : (f : ℕ → ℕ) (blank : ℕ) (P table : List ℕ) (lower upper : ℕ) → lower < 256 → upper < 256 → Listed f blank P table
    → Listed (moved f lower upper) blank P (copy table lower upper)
copied f blank P table lower upper low up t = record { full = length-set table lower _ ∙ t.full; each = each }
  where
    each : (c : ℕ) → c < 256 → get_or (copy table lower upper) c 0 ≡ bit_xor blank (mask_of P (moved f lower upper c))
    each c h =
        by_cases (ℕ_discrete c lower)
        (λ (same : c ≡ lower).
        let inside : lower < length table = omega (arith, t.full) in
        rw (same, eq-eqb lower lower refl) (get_or-set_same table lower (get_or table upper 0) 0 inside ∙ t.each upper up))
        (λ (other : ¬ (c ≡ lower)). rw (ne_eqb c lower other) (get_or-set_other table lower c (get_or table upper 0) 0 other ∙ t.each c h))

-- the five that lower case has
pub copied_all : (blank : ℕ) (P table : List ℕ) → Listed (λ c. c) blank P table
    → Filled blank P (copy (copy (copy (copy (copy table 0x6E 0x4E) 0x74 0x54) 0x67 0x47) 0x63 0x43) 0x61 0x41)
unfolding raised
copied_all blank P table t =
    let n = copied (λ c. c) blank P table 0x6E 0x4E (lit< tt) (lit< tt) t in
    let m = copied _ blank P _ 0x74 0x54 (lit< tt) (lit< tt) n in
    let g = copied _ blank P _ 0x67 0x47 (lit< tt) (lit< tt) m in
    let c = copied _ blank P _ 0x63 0x43 (lit< tt) (lit< tt) g in
    let a = copied _ blank P _ 0x61 0x41 (lit< tt) (lit< tt) c in
    record { full = a.full; each = a.each }
