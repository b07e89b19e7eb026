-- The rows of the card of a stretch: what is told of them, rows 1 to m - 1 over its segments, and row 0 as the search tells it.
use Rattle.std.specs.Prelude.{ℕ, ◌^◌, ◌<◌, ◌≤◌, ◌≡◌, List, length, Result, Ok, Err}
use Rattle.text.specs.Text.{Text}
use Rattle.text.specs.State.{fresh}
use Rattle.text.specs.Refusal.{Outcome, ok, refused, after, pattern}
use Rattle.text.specs.Card.{Row, Card, dead, row, ran, card_of}
use Rattle.layout.specs.Reading.{whole_stretch, stretch_of}
use Rattle.text.specs.declared.refusal.Refusal.{Refusal}
use Rattle.card.specs.declared.rows.passes.Summed.{Summed}
use Rattle.card.specs.Held.{exits_of, firsts_of, Bases}

-- the card of a stretch: 1, 2, 3, then those of the stretch
unfoldable pub carding : List ℕ → List ℕ → Outcome Card
carding P s = pattern P (after (stretch_of s) λ t. ok (card_of P t))

-- the segments and the rows of a card, as they are held
abbrev pub summed : Card → Summed
summed c = record { segments = c.segments; rows = record { exits = exits_of c.rows; firsts = firsts_of c.rows } }

-- the one answer for each outcome: what the card has, or the refusal
abbrev pub rowed : Outcome Card → Result Summed Refusal
rowed (ok c) = Ok (summed c)
rowed (refused n p) = Err (record { number = n; place = p })

-- bytes that are accepted as a stretch of n segments, their length apart
pub record Sound (s : List ℕ) (n : ℕ) : Type 0 where
  pub text : Text
  pub read : whole_stretch s ≡ ok text
  pub count : length text ≡ n

-- the rows of the card of t, of which row 0 may be anything
pub record Rowed (P : List ℕ) (t : Text) (rows : List Row) : Type 0 where
  pub each : (q : ℕ) → 0 < q → q < length P → row rows q ≡ ran P (2 ^ q) t
  pub idle : (q : ℕ) → length P ≤ q → row rows q ≡ dead

-- the same of the text of s
abbrev pub RowsOf : List ℕ → List ℕ → List Row → Type 0
RowsOf P s rows = (t : Text) → whole_stretch s ≡ ok t → Rowed P t rows

-- what the search of a sound stretch from the fresh state tells of its card: the segment count and row 0
pub record RowZero (P s : List ℕ) (segments : ℕ) (r : Row) : Type 0 where
  pub bases : Bases (length P)
  pub sound : Sound s segments
  pub is : r ≡ ran P fresh sound.text

-- the rows of the card of the text of s
abbrev pub AreOver : List ℕ → List ℕ → Summed → Type 0
AreOver P s r = (t : Text) → whole_stretch s ≡ ok t → r ≡ summed (card_of P t)
