-- Borders: how far the first bases of a pattern end a string, and what a table of borders holds.
use Rattle.std.specs.Prelude.{ℕ, ◌-◌, ◌≤◌, ◌<◌, List, [], ◌∷◌, ◌++◌, length, take, get_or}
use Rattle.text.specs.Refusal.{SoundPattern}
use Rattle.text.specs.Occurrence.{Suffix}
use Rattle.search.specs.Masks.{StateOf}

-- of the lengths up to n, k is the greatest at which the first bases of P end s
pub record Longest (P s : List ℕ) (n k : ℕ) : Type 0 where
  pub within : k ≤ n
  pub ends : Suffix (take k P) s
  pub most : (r : ℕ) → r ≤ n → Suffix (take r P) s → r ≤ k

-- b is the length of the border of P's first k bases: the longest shorter string that begins and ends them
abbrev pub Border : List ℕ → ℕ → ℕ → Type 0
Border P k b = Longest P (take k P) (k - 1) b

-- x is the greatest length at which the first bases of P end its first k with the letter c after them
abbrev pub Next : List ℕ → ℕ → ℕ → ℕ → Type 0
Next P k c x = Longest P (take k P ++ (c ∷ [])) (length P) x

-- entries 0 to n of the table are the border lengths of P's prefixes; the rest is free
pub record Filled (P table : List ℕ) (n : ℕ) : Type 0 where
  pub border : (k : ℕ) → k ≤ n → Border P k (get_or table k 0)

-- the border table of the whole pattern
abbrev pub Borders : List ℕ → List ℕ → Type 0
Borders P table = Filled P table (length P)

-- k bases of a pattern of at most 64 are matched, not all of them, and the table has the borders up to there
pub record Matched (P table : List ℕ) (k : ℕ) : Type 0 where
  pub near : k < length P
  pub short : length P ≤ 64
  pub filled : Filled P table k

-- what a step by borders rests on: a pattern of 1 to 64 bases with its table, and one of its states
pub record Bordered (P table : List ℕ) (st : ℕ) : Type 0 where
  pub sized : SoundPattern P
  pub holds : Borders P table
  pub state : StateOf P st
