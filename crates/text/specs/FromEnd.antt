-- What a comparison from the end goes by: bytes taken two, four and eight at a time, and where two strings are the same.
use Rattle.std.specs.Prelude.{ℕ, ◌+◌, ◌*◌, ◌≤◌, ◌≡◌, List, length, get_or, drop}

-- two, four and eight bytes from `at` on as one number, low byte first
unfoldable pub two : List ℕ → ℕ → ℕ
two s at = get_or s at 0 + get_or s (at + 1) 0 * 0x100

unfoldable pub four : List ℕ → ℕ → ℕ
four s at = two s at + two s (at + 2) * 0x1_0000

unfoldable pub eight : List ℕ → ℕ → ℕ
eight s at = four s at + four s (at + 4) * 0x1_0000_0000

-- two strings of one length are the same from i on
pub record SameFrom (s t : List ℕ) (i : ℕ) : Type 0 where
  pub even : length s ≡ length t
  pub inside : i ≤ length s
  pub behind : drop i s ≡ drop i t
