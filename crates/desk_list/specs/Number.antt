-- Decimal numbers.
use Rattle.std.specs.Prelude.{ℕ, ◌+◌, ◌*◌, ◌%◌, ◌^◌, cond, List, [], ◌∷◌, ltb, Option, Some, None}

-- the number that digits tell, from the highest on, after those that told n; the byte of a digit is 48 and the digit
unfoldable pub value : ℕ → List ℕ → ℕ
value n [] = n
value n (d ∷ ds) = value (n * 10 + d % 16) ds

-- the number that digits tell, if 64 bits hold it
unfoldable pub number_of : List ℕ → Option ℕ
number_of ds = cond (ltb (value 0 ds) (2 ^ 64)) (Some (value 0 ds)) None
