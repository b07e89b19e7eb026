-- The decimal digits of a number, as bytes, and a line that ends with a number.
use Rattle.std.specs.Prelude.{ℕ, zero, suc, ◌+◌, ◌/◌, ◌%◌, Bool, cond, List, [], ◌∷◌, ◌++◌, leb, ltb}

-- the byte of a digit, 0 to 9
abbrev pub digit : ℕ → ℕ
digit d = 48 + d

-- the digits of a number below k, the highest first and no 0 in front: those of its tenth, then its last one
unfoldable pub digits_in : ℕ → ℕ → List ℕ
digits_in zero n = []
digits_in (suc k) n = cond (ltb n 10) (digit n ∷ []) (digits_in k (n / 10) ++ (digit (n % 10) ∷ []))

-- the digits of a number
unfoldable pub digits : ℕ → List ℕ
digits n = digits_in (suc n) n

-- a line: a word, a number, the line's end
unfoldable pub line : List ℕ → ℕ → List ℕ
line word n = word ++ digits n ++ (10 ∷ [])

-- five digits write it
abbrev pub is_numbered : ℕ → Bool
is_numbered n = leb n 99999

-- the name of a file of several: a name, a point and the last five digits of a number
unfoldable pub numbered : List ℕ → ℕ → List ℕ
numbered name n =
    name
    ++ (46 ∷ digit (n / 10000 % 10) ∷ digit (n / 1000 % 10) ∷ digit (n / 100 % 10) ∷ digit (n / 10 % 10) ∷ digit (n % 10) ∷ [])
