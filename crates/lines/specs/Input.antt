-- The parts of the program's input: a byte with the pattern's length, the pattern, then the stretch to the end.
use Rattle.std.specs.Prelude.{ℕ, ◌+◌, List, take, drop, get_or}
use Rattle.layout.specs.Bytes.{greatest_stretch}

-- the bytes of an input that count: the pattern's length, the longest pattern that a byte can announce, and a stretch of one byte over
-- the limit
abbrev pub most_read : ℕ
most_read = 257 + greatest_stretch

-- the pattern's length, 0 where there is no input
unfoldable pub announced : List ℕ → ℕ
announced input = get_or input 0 0

-- the pattern, or as much of it as is there
unfoldable pub pattern_in : List ℕ → List ℕ
pattern_in input = take (announced input) (drop 1 input)

-- the stretch, empty where the input ends inside the pattern
unfoldable pub stretch_in : List ℕ → List ℕ
stretch_in input = drop (1 + announced input) input
