-- What the search on both strands rests on, strand by strand: a pattern of 1 to 64 bases, its letter vectors, and which bytes are letters.
use Rattle.std.specs.Prelude.{ℕ, ◌<◌, ◌≤◌, ◌≡◌, true, List, length}
use Rattle.text.specs.Letter.{base, every, Classes}
use Rattle.search.specs.Masks.{Others}

-- a pattern of 1 to 64 bases with the complement of its letter vectors
pub record Founded (P table : List ℕ) : Type 0 where
  pub some : 0 < length P
  pub short : length P ≤ 64
  pub bases : every base P ≡ true
  pub holds : Others P table

-- and with the table of letters
pub record Tools (P table classes : List ℕ) : Type 0 where
  pub founded : Founded P table
  pub letters : Classes classes
