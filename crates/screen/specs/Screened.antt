-- What the program promises of its whole input, of which a buffer holds all or the front.
use Rattle.std.specs.Prelude.{◌≡◌, ℕ, List, length, take}
use Rattle.io.specs.Counts.{IsPrefixLen}
use Rattle.lines.specs.Answer.{lines_of}
use Rattle.lines.specs.declared.strands.Strands.{Strands}

-- the first n bytes of the buffer are what it holds of the input: all of it, or as much as there is room for
abbrev pub Read : List ℕ → List ℕ → ℕ → Type 0
Read input buffer n = take (length buffer) input ≡ take n buffer

-- the first r bytes of `out` are the lines, on these strands, of every input of which the buffer holds n bytes
pub record Screened (strands : Strands) (buffer : List ℕ) (n : ℕ) (out : List ℕ) (r : ℕ) : Type 0 where
  pub counts : IsPrefixLen r out
  pub lines : (input : List ℕ) → Read input buffer n → take r out ≡ lines_of strands input
