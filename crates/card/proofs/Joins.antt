-- Joining: how the loop goes over the left card's rows, and that it makes the card of two neighbours.
use Prim.Native.Nat.{ℕ, zero, suc, ◌+◌, ◌^◌, ◌<◌, ◌≤◌, min}
use native.Mathlib.Numerals.{add-one}
use native.Mathlib.Decide.{dec_lt}
use native.Mathlib.Omega.{arith}
use mathlib.Core.Path.{◌≡◌, refl, sym, ap, ◌∙◌}
use mathlib.Core.Logic.{by_cases}
use mathlib.Core.List.{List, [], ◌∷◌, map}
use lib.ListN.{length, get_or, set, length-map}
use lib.Pow.{pow_pos}
use Rattle.text.specs.Refusal.{ok}
use Rattle.text.specs.Card.{Row, Card, row, later, follow, onward, through, joined, join}
use Rattle.text.proofs.Rows.{map_rows, row-map, through-dead}
use Rattle.text.proofs.Cards.Formed.{WellFormed}
use Rattle.text.proofs.Cards.Joined.{Joinable, join-met}
use Rattle.card.specs.declared.cards.Card.{Card as Held}
use Rattle.card.specs.Held.{row_of, rows_in, exits_of, firsts_of, Full}
use Rattle.card.specs.Cards.{card_in, card_out}
use Rattle.card.proofs.RowsHeld.{rows-set, exits-in, firsts-in, even, full-set, rows-length, rows_row}
use Rattle.card.proofs.Follows.{follow-short}

-- f applied to the rows from row k on
pub map_from : (Row → Row) → ℕ → List Row → List Row
map_from f zero rows = map f rows
map_from f (suc k) [] = []
map_from f (suc k) (r ∷ rows) = r ∷ map_from f k rows

from_one : (f : Row → Row) (rows : List Row) (k : ℕ) → k < length rows
    → map_from f (suc k) (set rows k (f (row rows k))) ≡ map_from f k rows
unfolding map_from
from_one f [] k l = absurd (let z : ⊥ = omega arith in z)
from_one f (r ∷ rows) zero l = refl
from_one f (r ∷ rows) (suc k) l = ap (λ (rest : List Row). r ∷ rest) (from_one f rows k (omega arith))

from_all : (f : Row → Row) (rows : List Row) (k : ℕ) → length rows ≤ k → map_from f k rows ≡ rows
unfolding map_from
from_all f [] zero l = refl
from_all f [] (suc k) l = refl
from_all f (r ∷ rows) zero l = absurd (let z : ⊥ = omega arith in z)
from_all f (r ∷ rows) (suc k) l = ap (λ (rest : List Row). r ∷ rest) (from_all f rows k (omega arith))

-- the rows below q are changed by f, and the whole is what is left to change from q on
pub record Changing (f : Row → Row) (rows : List Row) (es fs : List ℕ) (q : ℕ) : Type 0 where
  pub full : Full es fs
  pub inside : q ≤ 64
  pub rest : map f rows ≡ map_from f q (rows_in es fs)

module _ (f : Row → Row) where
  pub changing-none : (es fs : List ℕ) → Full es fs → Changing f (rows_in es fs) es fs 0
  unfolding map_from
  changing-none es fs full = record { full = full; inside = omega arith; rest = refl }

  module _ (rows : List Row) (es fs : List ℕ) (q : ℕ) (h : Changing f rows es fs q) where
    pub changing-more : (exit first : ℕ) → q < 64 → row_of exit first ≡ f (row_of (get_or es q 0) (get_or fs q 0))
        → Changing f rows (set es q exit) (set fs q first) (q + 1)
    changing-more exit first l e =
        let inside : q < length (rows_in es fs) = omega (arith, rows-length h.full) in
        let here : row_of exit first ≡ f (row (rows_in es fs) q) = e ∙ ap f (sym (rows_row h.full q l)) in
        record {
          full = full-set h.full q exit first;
          inside = omega arith;
          rest = h.rest ∙ sym (rw (add-one, rows-set es fs q exit first (even h.full), here) (from_one f (rows_in es fs) q inside));
        }

    pub changing-all : 64 ≤ q → rows_in es fs ≡ map f rows
    changing-all l =
        let past : length (rows_in es fs) ≤ q = omega (arith, rows-length h.full) in
        sym (h.rest ∙ from_all f (rows_in es fs) q past)

-- a row goes on with what the next card's rows make of its exit
pub row-through : (n exit first : ℕ) (next : List Row) (s : Row) (e f : ℕ)
    → s ≡ follow 64 next exit → e ≡ later n s.first → f ≡ min first e
    → row_of s.exit f ≡ through 64 n next (row_of exit first)
unfolding onward
row-through n exit first next s e f p r t =
    λ i. record { exit = (p i).exit; first = (t ∙ ap (min first) (r ∙ ap (λ (s : Row). later n s.first) p)) i }

pub exit_small : (a : Card) → WellFormed a → (q : ℕ) → (row a.rows q).exit < 2 ^ a.m
exit_small a w q =
    by_cases (dec_lt q a.m)
    (λ (l : q < a.m). (w.live q l).small)
    (λ (l : ¬ (q < a.m)). let from : a.m ≤ q = omega arith in rw (w.idle q from) (pow_pos a.m))

module _ (a b : Card) (j : Joinable a b) where
  -- what 64 rows make of an exit is what the first m of them make
  rows_short : map (through 64 a.segments b.rows) a.rows ≡ (joined a b).rows
  unfolding joined
  rows_short =
      map_rows (through 64 a.segments b.rows) a.rows (map (through a.m a.segments b.rows) a.rows)
      (through-dead 64 a.segments b.rows) (sym (length-map a.rows _)) each
    where
      small : (q : ℕ) → (row b.rows q).exit < 2 ^ a.m
      small q = rw j.sizes (exit_small b j.right q)

      each : (q : ℕ)
          → through 64 a.segments b.rows (row a.rows q) ≡ row (map (through a.m a.segments b.rows) a.rows) q
      each q =
          let r = row a.rows q in
          ap (onward a.segments r) (follow-short a.m b.rows r.exit j.left.short (exit_small a j.left q) small)
          ∙ sym (row-map (through a.m a.segments b.rows) a.rows q (through-dead a.m a.segments b.rows))

-- the segments of two neighbours can be counted
pub joined-fits : (a b : Card) → join a b ≡ ok (joined a b) → a.segments + b.segments < 2 ^ 32
joined-fits a b e = omega (arith, (join-met a b (joined a b) e).fits)

-- the card that the loop leaves is the card of two neighbours
pub joined-held : (left right : Held) → join (card_in left) (card_in right) ≡ ok (joined (card_in left) (card_in right))
    → (es fs : List ℕ) (q : ℕ)
    → Changing (through 64 left.segments (card_in right).rows) (card_in left).rows es fs q
    → 64 ≤ q
    → record { pattern = left.pattern; m = left.m; segments = left.segments + right.segments; exits = es; firsts = fs }
    ≡ card_out (joined (card_in left) (card_in right))
unfolding joined
joined-held left right e es fs q h l =
    λ i.
    record {
      pattern = left.pattern;
      m = left.m;
      segments = left.segments + right.segments;
      exits = (sym (exits-in es fs (even h.full)) ∙ ap exits_of rows) i;
      firsts = (sym (firsts-in es fs (even h.full)) ∙ ap firsts_of rows) i;
    }
  where
    rows : rows_in es fs ≡ (joined (card_in left) (card_in right)).rows
    rows = changing-all _ _ es fs q h l ∙ rows_short (card_in left) (card_in right) (join-met (card_in left) (card_in right) _ e)
