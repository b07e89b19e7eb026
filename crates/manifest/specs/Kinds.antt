-- Kinds of bytes in a manifest, and names of files.
use Rattle.std.specs.Prelude.{ℕ, Bool, not, ◌||◌, ◌&&◌, List, eqb, leb, ltb, length, get_or}
use Rattle.text.specs.Letter.{every}

-- no line feed
unfoldable pub in_line : ℕ → Bool
in_line c = not (eqb c 10)

-- a hex digit: 0 to 9 or a to f
unfoldable pub hex_digit : ℕ → Bool
hex_digit c = (leb 48 c && leb c 57) || (leb 97 c && leb c 102)

-- 32 or above, but no backslash and not 127
unfoldable pub of_name : ℕ → Bool
of_name c = not (eqb c 92 || eqb c 127) && leb 32 c

-- a name: one byte or more, each one of a name's, and no `/` in front
unfoldable pub is_name : List ℕ → Bool
is_name n = ltb 0 (length n) && (not (eqb (get_or n 0 0) 0x2F) && every of_name n)
