-- Laws of the test for repetition in a write: a variant against those before it, which stand one after another in the letters.
use Prim.Native.Nat.{ℕ, ◌+◌, ◌-◌, ◌<◌, ◌≤◌}
use native.Mathlib.Omega.{arith}
use mathlib.Core.Path.{◌≡◌, ◌∙◌}
use mathlib.Core.Bool.{true, false, ◌||◌}
use mathlib.Core.List.{List}
use lib.ListN.{length, get_or, take, drop}
use Rattle.text.specs.Text.{Variant}
use Rattle.text.specs.Compare.{same}
use Rattle.text.specs.Bits.{any_of}
use Rattle.layout.specs.Reading.{among}
use Rattle.writer.specs.Cuts.{pieces, Within}
use Rattle.writer.proofs.Cuts.{Passing, passing-none, passing-number, passing-more, part_slice, pieces-rest, pieces-over}

-- v is equal to none of the first i variants, and is compared on from there
pub record Compared (letters lengths : List ℕ) (first from n : ℕ) (v : Variant) (start i : ℕ) : Type 0 where
  pub passing : Passing (length letters) lengths first from n i start
  pub rest : among v (pieces letters lengths first from n) ≡ among v (pieces letters lengths (first + i) start (n - i))

pub compared-none :
    {letters lengths : List ℕ} {first from n : ℕ} (v : Variant) → Within (length letters) lengths first from n →
    Compared letters lengths first from n v from 0
compared-none {first} {n} v w =
    let e : first + 0 ≡ first = omega arith in
    let f : n - 0 ≡ n = omega arith in
    record { passing = passing-none w; rest = rw (e, f) }

module _
    {letters lengths : List ℕ} {first from n : ℕ} {v : Variant} {start i : ℕ}
    (c : Compared letters lengths first from n v start i) where
  -- the next variant, of m letters, as a slice hands it on
  module _ (l : i < n) {m : ℕ} (e : m ≡ get_or lengths (first + i) 0) where
    one_more :
        among v (pieces letters lengths first from n)
        ≡ (same v (take (start + m - start) (drop start letters))
        || among v (pieces letters lengths (first + (i + 1)) (start + m) (n - (i + 1))))
    unfolding among any_of
    one_more = c.rest ∙ rw (pieces-rest letters lengths first start n i l (passing-number c.passing l), part_slice letters start m, e)

    pub compared_same :
        same v (take (start + m - start) (drop start letters)) ≡ true → among v (pieces letters lengths first from n) ≡ true
    compared_same t = one_more ∙ rw t

    pub compared-more :
        same v (take (start + m - start) (drop start letters)) ≡ false → Compared letters lengths first from n v (start + m) (i + 1)
    compared-more t = record { passing = passing-more c.passing l e; rest = one_more ∙ rw t }

  pub compared-end : n ≤ i → among v (pieces letters lengths first from n) ≡ false
  unfolding among any_of
  compared-end l = c.rest ∙ rw (pieces-over letters lengths (first + i) start n i l)
