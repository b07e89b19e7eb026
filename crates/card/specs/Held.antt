-- Rows as they are held: their exits and their first ends, in two arrays of 64. What is said of rows is said of a list of them.
use Rattle.std.specs.Prelude.{ℕ, ◌^◌, ◌<◌, ◌≤◌, ◌≡◌, List, [], ◌∷◌, map, cond, ltb, length}
use Rattle.text.specs.Refusal.{greatest_pattern}
use Rattle.text.specs.Card.{Row, tabulate}

-- a row, from its two numbers
abbrev pub row_of : ℕ → ℕ → Row
row_of exit first = record { exit = exit; first = first }

-- the rows of a card, from its exits and its first ends
unfoldable pub rows_in : List ℕ → List ℕ → List Row
rows_in [] firsts = []
rows_in (e ∷ exits) [] = []
rows_in (e ∷ exits) (f ∷ firsts) = row_of e f ∷ rows_in exits firsts

-- the exits and the first ends of rows
abbrev pub exits_of : List Row → List ℕ
exits_of = map (λ (r : Row). r.exit)

abbrev pub firsts_of : List Row → List ℕ
firsts_of = map (λ (r : Row). r.first)

-- 64 exits and 64 first ends
pub record Full (exits firsts : List ℕ) : Type 0 where
  pub states : length exits ≡ greatest_pattern
  pub ends : length firsts ≡ greatest_pattern

-- 1 to 64 bases
pub record Bases (m : ℕ) : Type 0 where
  pub some : 0 < m
  pub short : m ≤ greatest_pattern

-- the exits of the empty card: bit q alone in row q below m
unfoldable pub lones : ℕ → List ℕ
lones m = tabulate (λ q. cond (ltb q m) (2 ^ q) 0) greatest_pattern
