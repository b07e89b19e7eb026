-- Cards: what a stretch does to each carried length, and how cards are joined and asked.
use Rattle.std.specs.Prelude.{ℕ, zero, suc, ◌+◌, ◌-◌, ◌^◌, min, Bool, true, ◌||◌, ◌&&◌, cond, List, [], ◌∷◌, ◌++◌, map, eqb, ltb, leb, length, take, get_or, replicate}
use Rattle.std.specs.Bool.{beq}
use Rattle.text.specs.Letter.{base, every}
use Rattle.text.specs.Text.{Text}
use Rattle.text.specs.Compare.{same}
use Rattle.text.specs.Bits.{bit, from_bits, any_below}
use Rattle.text.specs.State.{is_state, run, marks_from}
use Rattle.text.specs.Refusal.{Outcome, ok, demand, greatest_pattern, pattern}

-- the first end that means "none", and the most segments of a card
abbrev pub none : ℕ
none = 4294967295

abbrev pub most_segments : ℕ
most_segments = 4294967294

-- what comes of a state that enters a stretch: the state that leaves it, and the first segment where an occurrence ends
pub record Row : Type 0 where
  pub exit : ℕ
  pub first : ℕ

-- a card: the pattern in 64 bytes, its m bases, the segment count, and a row for each carried length
pub record Card : Type 0 where
  pub pattern : List ℕ
  pub m : ℕ
  pub segments : ℕ
  pub rows : List Row

-- nothing leaves, and nothing ends
abbrev pub dead : Row
dead = record { exit = 0; first = none }

-- row q of a list of rows
abbrev pub row : List Row → ℕ → Row
row rows q = get_or rows q dead

-- an end e, counted from n segments earlier; "none" stays "none"
unfoldable pub later : ℕ → ℕ → ℕ
later n e = min none (n + e)

-- the number of the first mark that is 1, or "none"
unfoldable pub first_end : List ℕ → ℕ
first_end [] = none
first_end (x ∷ xs) = cond (eqb x 1) 0 (later 1 (first_end xs))

-- f 0, f 1, up to n of them
unfoldable pub tabulate : {A : Type 0} → (ℕ → A) → ℕ → List A
tabulate f zero = []
tabulate f (suc n) = f 0 ∷ tabulate (λ k. f (suc k)) n

-- the pattern's bytes: its bases, then 0
unfoldable pub padded : List ℕ → List ℕ
padded P = P ++ replicate (greatest_pattern - length P) 0

-- what running the text T from the state st gives
unfoldable pub ran : List ℕ → ℕ → Text → Row
ran P st T = record { exit = run P st T; first = first_end (marks_from P st T) }

-- the rows of a card of m bases: f q in row q below m, and dead rows from m up
unfoldable pub rows_of : ℕ → (ℕ → Row) → List Row
rows_of m f = tabulate (λ q. cond (ltb q m) (f q) dead) greatest_pattern

-- the card of a text: row q is what comes of a lone q carried in, row 0 of nothing carried in
unfoldable pub card_of : List ℕ → Text → Card
card_of P T =
    record { pattern = padded P; m = length P; segments = length T; rows = rows_of (length P) (λ q. ran P (2 ^ q) T) }

-- a lone q goes on as it came, and ends nothing
abbrev pub lone : ℕ → Row
lone q = record { exit = 2 ^ q; first = none }

-- the card of no segments
unfoldable pub empty_card : List ℕ → Card
empty_card P = record { pattern = padded P; m = length P; segments = 0; rows = rows_of (length P) lone }

-- row q of a card of m bases and n segments is as document 01 says
unfoldable pub is_row : ℕ → ℕ → ℕ → Row → Bool
is_row m n q r =
    cond (ltb q m)
    (beq (bit r.exit 0) (eqb q 0) && ltb r.exit (2 ^ m) && (eqb r.first none || ltb r.first n))
    (eqb r.exit 0 && eqb r.first none)

-- every row from row q on is as document 01 says
unfoldable pub are_rows : ℕ → ℕ → ℕ → List Row → Bool
are_rows m n q [] = true
are_rows m n q (r ∷ rs) = is_row m n q r && are_rows m n (suc q) rs

-- a card that is not malformed
unfoldable pub well_formed : Card → Bool
well_formed a =
    ltb 0 a.m
    && leb a.m greatest_pattern
    && same a.pattern (padded (take a.m a.pattern))
    && every base (take a.m a.pattern)
    && leb a.segments most_segments
    && eqb (length a.rows) greatest_pattern
    && are_rows a.m a.segments 0 a.rows

-- the earliest of f over the bits of a state below n
unfoldable pub earliest : ℕ → (ℕ → ℕ) → ℕ → ℕ
earliest st f zero = none
earliest st f (suc n) = min (earliest st f n) (cond (bit st n) (f n) none)

-- the union of f over the bits of a state below m
unfoldable pub union : ℕ → (ℕ → ℕ) → ℕ → ℕ
union st f m = from_bits (λ r. any_below (λ q. bit st q && bit (f q) r) m) m

-- what the rows of a card of m bases make of a state: the union of exits and the earliest end over its bits
unfoldable pub follow : ℕ → List Row → ℕ → Row
follow m rows st =
    record { exit = union st (λ q. (row rows q).exit) m; first = earliest st (λ q. (row rows q).first) m }

-- a row of n segments and what follows it: the later exit, and the earlier end
unfoldable pub onward : ℕ → Row → Row → Row
onward n r s = record { exit = s.exit; first = min r.first (later n s.first) }

-- a row of n segments, and what the next card's rows make of its exit
abbrev pub through : ℕ → ℕ → List Row → Row → Row
through m n next r = onward n r (follow m next r.exit)

-- the card of two neighbours
unfoldable pub joined : Card → Card → Card
joined a b =
    let rows : List Row = map (through a.m a.segments b.rows) a.rows in
    record { pattern = a.pattern; m = a.m; segments = a.segments + b.segments; rows = rows }

-- two cards of one pattern
unfoldable pub same_pattern : Card → Card → Bool
same_pattern a b = eqb a.m b.m && same a.pattern b.pattern

-- join two cards
unfoldable pub join : Card → Card → Outcome Card
join a b =
    demand (well_formed a) 11 0
    (demand (well_formed b) 11 1
    (demand (same_pattern a b) 12 0
    (demand (leb (a.segments + b.segments) most_segments) 13 0
    (ok (joined a b)))))

-- ask a card what it makes of a state
unfoldable pub ask : Card → ℕ → Outcome Row
ask a st = demand (well_formed a) 11 0 (demand (is_state a.m st) 17 0 (ok (follow a.m a.rows st)))

-- the empty card, made from a pattern
unfoldable pub empty : List ℕ → Outcome Card
empty P = pattern P (ok (empty_card P))
