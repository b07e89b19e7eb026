-- Lines and columns: counted from 1, a column for each byte, and a new line after each line end.
use Rattle.std.specs.Prelude.{ℕ, ◌+◌, min, cond, List, [], ◌∷◌, eqb}
use Rattle.eds_notation.specs.declared.place.Place.{Place}

-- the greatest number, which stays
abbrev pub greatest : ℕ
greatest = 18446744073709551615

unfoldable pub next : ℕ → ℕ
next n = min greatest (n + 1)

-- after one byte
unfoldable pub over_byte : Place → ℕ → Place
over_byte p x = cond (eqb x 0x0A) (record { line = next p.line; column = 1 }) (record { line = p.line; column = next p.column })

-- after these bytes
unfoldable pub behind : Place → List ℕ → Place
behind p [] = p
behind p (x ∷ s) = behind (over_byte p x) s
