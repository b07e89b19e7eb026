-- Prints: numbers below 64 that variants share which spell the same. A set of them, as the bits of a word, tells which variants of a
-- segment may repeat one before them.
use Rattle.std.specs.Prelude.{◌≡◌, ℕ, ◌+◌, ◌-◌, ◌*◌, ◌/◌, ◌%◌, ◌^◌, ◌<◌, Bool, true, cond, not, ◌&&◌, List, length, ◌==◌, bit_and, nat_le, slice_index}
use Rattle.text.specs.Text.{Variant}
use Rattle.text.specs.Bits.{bit}
use Rattle.layout.specs.Pieces.{letters_at, next_of, repeats}
use Rattle.layout.specs.Reading.{among, values_from}

-- by the length, and two bits of the last letter that are alike in upper and lower case
unfoldable pub print_of : Variant → ℕ
print_of v = length v % 16 * 4 + slice_index v (length v - 1) / 2 % 4

-- the bit of the variant at `at`, one of n of its segment; none where it is the only one, or cut off
unfoldable pub print_at : List ℕ → ℕ → ℕ → ℕ
print_at s n at = cond (n == 1) 0 (cond (nat_le (next_of s at) (length s)) (2 ^ print_of (letters_at s at)) 0)

-- the set has it
unfoldable pub suspected_at : List ℕ → ℕ → ℕ → ℕ → Bool
suspected_at s n prints at = not (bit_and prints (print_at s n at) == 0)

-- the variant at `at` spells what one of those spells that stand from `first` on before it; one that is cut off does not
unfoldable pub repeats_at : List ℕ → ℕ → ℕ → Bool
repeats_at s first at = nat_le (next_of s at) (length s) && repeats s (letters_at s at) first at

-- the set has the prints of the first k of n variants, while more are to come
pub record Noted (s : List ℕ) (n first k prints : ℕ) : Type 0 where
  pub each : k < n → (v : Variant) → among v (values_from s k first) ≡ true → bit prints (print_of v) ≡ true
