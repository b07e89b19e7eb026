-- Kinds of bytes in the text of a list, and the place where bytes of a kind end.
use Rattle.std.specs.Prelude.{ℕ, ◌+◌, Bool, not, ◌||◌, ◌&&◌, List, eqb, leb, drop}
use Rattle.text.specs.Letter.{first_not}

-- printable ASCII and tab
unfoldable pub plain : ℕ → Bool
plain c = eqb c 9 || (leb 32 c && leb c 126)

-- tab or space
abbrev pub blank : ℕ → Bool
blank c = eqb c 9 || eqb c 32

-- 0 to 9
unfoldable pub digit : ℕ → Bool
digit c = leb 48 c && leb c 57

-- no blank, and no `#`
unfoldable pub word : ℕ → Bool
word c = not (blank c || eqb c 35)

-- no line feed
unfoldable pub in_line : ℕ → Bool
in_line c = not (eqb c 10)

-- the first place from `from` on whose byte is not of a kind
unfoldable pub past : (ℕ → Bool) → List ℕ → ℕ → ℕ
past kind s from = from + first_not kind (drop from s)
