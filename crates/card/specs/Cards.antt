-- Cards as the calls hold them, in arrays of 64, and the cards of the definitions that they stand for.
use Rattle.std.specs.Prelude.{ℕ, ◌≡◌, List, Bool, ◌&&◌, ltb, leb, take, drop}
use Rattle.text.specs.Letter.{base, every}
use Rattle.text.specs.Compare.{same}
use Rattle.text.specs.Refusal.{greatest_pattern}
use Rattle.text.specs.Card.{Row, Card, padded, are_rows}
use Rattle.card.specs.Held.{row_of, rows_in, exits_of, firsts_of}
use Rattle.card.specs.declared.cards.Card.{Card as Held}
use Rattle.card.specs.declared.follow.Row.{Row as Pair}

-- a row, from what the code hands back
abbrev pub row_in : Pair → Row
row_in r = row_of r.exit r.first

-- the card that a held card stands for, and the held card that stands for a card
abbrev pub card_in : Held → Card
card_in c = record { pattern = c.pattern; m = c.m; segments = c.segments; rows = rows_in c.exits c.firsts }

abbrev pub card_out : Card → Held
card_out c =
    record { pattern = c.pattern; m = c.m; segments = c.segments; exits = exits_of c.rows; firsts = firsts_of c.rows }

-- the first m bytes are a pattern, and the others 0: the first four tests of `well_formed`
unfoldable pub is_padded : List ℕ → ℕ → Bool
is_padded bytes m =
    ltb 0 m && leb m greatest_pattern && same bytes (padded (take m bytes)) && every base (take m bytes)

-- every row of a card of m bases and n segments, from row q on, is as document 01 says
abbrev pub rows_from : ℕ → ℕ → List Row → ℕ → Bool
rows_from m n rows q = are_rows m n q (drop q rows)

-- r is the test of the rows from b up to e: with that of the rows from e on, it is that of the rows from b on
abbrev pub IsTest : ℕ → ℕ → List Row → ℕ → ℕ → Bool → Type 0
IsTest m n rows b e r = rows_from m n rows b ≡ (r && rows_from m n rows e)
