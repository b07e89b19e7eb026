-- The number of each thing that can be wrong with a text in braces.
use Rattle.std.specs.Prelude.{ℕ}
use Rattle.eds_notation.specs.declared.wrong.Wrong.{Wrong}

abbrev pub number : Wrong → ℕ
number Wrong.Letter = 1
number Wrong.Opened = 2
number Wrong.Closed = 3
number Wrong.Comma = 4
number Wrong.Ended = 5
number Wrong.Variants = 6
number Wrong.Repeated = 7
number Wrong.Long = 8
