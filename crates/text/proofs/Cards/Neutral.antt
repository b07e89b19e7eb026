-- The empty card is well formed, and neutral on both sides.
use Prim.Native.Nat.{ℕ, ◌^◌, ◌≤◌, ◌<◌}
use native.Mathlib.Omega.{arith}
use native.Mathlib.Decide.{dec_lt}
use native.Mathlib.Nat.{add-zero, zero-add}
use mathlib.Core.Path.{◌≡◌, refl, sym, ap, ◌∙◌}
use mathlib.Core.Logic.{by_cases, inl}
use mathlib.Core.Bool.{true}
use mathlib.Core.List.{List, map}
use lib.ListN.{length}
use lib.Pow.{pow-lt, pow_pos}
use Rattle.text.specs.Letter.{base, every}
use Rattle.text.specs.Refusal.{ok, greatest_pattern}
use Rattle.text.specs.Card.{Row, Card, none, dead, row, lone, through, padded, rows_of, empty_card}
use Rattle.text.specs.Card.{well_formed, joined, join}
use Rattle.text.proofs.Bits.{bit-single}
use Rattle.text.proofs.Ends.{end-le}
use Rattle.text.proofs.Rows.{through-dead, map_rows}
use Rattle.text.proofs.Rows.{length-rows_of, rows_of-below, rows_of-from, through-lone, lone-through}
use Rattle.text.proofs.Cards.Formed.{WellFormed, well, take-padded}
use Rattle.text.proofs.Cards.Joined.{join-ok}

empty-formed : (P : List ℕ) → 0 < length P → length P ≤ greatest_pattern → every base P ≡ true → WellFormed (empty_card P)
unfolding empty_card
empty-formed P some short bases =
    record {
      some = some;
      short = short;
      bytes = ap padded (sym (take-padded P));
      bases = rw take-padded bases;
      count = omega arith;
      full = length-rows_of (length P) lone;
      live = λ q l.
          rw (rows_of-below (length P) lone q l short) (record { small = pow-lt l; fresh = bit-single q 0; ends = inl refl });
      idle = rows_of-from (length P) lone;
    }

pub empty-well : (P : List ℕ) → 0 < length P → length P ≤ greatest_pattern → every base P ≡ true → well_formed (empty_card P) ≡ true
empty-well P some short bases = (well (empty_card P)).1 (empty-formed P some short bases)

-- every row, live or dead
row-bounds : (a : Card) → WellFormed a → (q : ℕ) → ((row a.rows q).exit < 2 ^ a.m) × ((row a.rows q).first ≤ none)
row-bounds a w q =
    by_cases (dec_lt q a.m)
    (λ (l : q < a.m). ((w.live q l).small, end-le a.segments (row a.rows q).first (omega arith) (w.live q l).ends))
    (λ (l : ¬ (q < a.m)). let from : a.m ≤ q = omega arith in rw (w.idle q from) (pow_pos a.m, omega arith))

-- the empty card's rows, before a card's rows and after them
lone-before : (a : Card) → WellFormed a → map (through a.m 0 a.rows) (rows_of a.m lone) ≡ a.rows
lone-before a w = map_rows on (rows_of a.m lone) a.rows still (length-rows_of a.m lone ∙ sym w.full) each
  where
    on : Row → Row
    on = through a.m 0 a.rows

    still : on dead ≡ dead
    still = through-dead a.m 0 a.rows

    live : (q : ℕ) → q < a.m → on (row (rows_of a.m lone) q) ≡ row a.rows q
    live q l =
        let bounds = row-bounds a w q in
        ap on (rows_of-below a.m lone q l w.short) ∙ through-lone a.m a.rows q l bounds.0 bounds.1

    idle : (q : ℕ) → a.m ≤ q → on (row (rows_of a.m lone) q) ≡ row a.rows q
    idle q l = ap on (rows_of-from a.m lone q l) ∙ still ∙ sym (w.idle q l)

    each : (q : ℕ) → on (row (rows_of a.m lone) q) ≡ row a.rows q
    each q = by_cases (dec_lt q a.m) (λ (l : q < a.m). live q l) (λ (l : ¬ (q < a.m)). idle q (omega arith))

lone-behind : (a : Card) → WellFormed a → map (through a.m a.segments (rows_of a.m lone)) a.rows ≡ a.rows
lone-behind a w =
    let empty = rows_of a.m lone in
    map_rows (through a.m a.segments empty) a.rows a.rows (through-dead a.m a.segments empty) refl each
  where
    each : (q : ℕ) → through a.m a.segments (rows_of a.m lone) (row a.rows q) ≡ row a.rows q
    each q =
        let bounds = row-bounds a w q in
        lone-through a.m a.segments (row a.rows q) w.short bounds.0 bounds.1

-- a card whose pattern is P
module _ (P : List ℕ) (a : Card) (w : well_formed a ≡ true) (bytes : a.pattern ≡ padded P) (size : a.m ≡ length P) where
  formed : WellFormed a
  formed = (well a).0 w

  -- then P is a pattern as document 01 says
  empty-beside : WellFormed (empty_card P)
  empty-beside =
      let bases : every base P ≡ true = rw (bytes, size, take-padded) at formed.bases in
      let some : 0 < length P = rw size at formed.some in
      let short : length P ≤ greatest_pattern = rw size at formed.short in
      empty-formed P some short bases

  joined-left : joined (empty_card P) a ≡ a
  unfolding joined empty_card
  joined-left = λ i. record { pattern = sym bytes i; m = sym size i; segments = zero-add a.segments i; rows = rows i }
    where
      rows : map (through (length P) 0 a.rows) (rows_of (length P) lone) ≡ a.rows
      rows = rw (← size) (lone-before a formed)

  joined-right : joined a (empty_card P) ≡ a
  unfolding joined empty_card
  joined-right = λ i. record { pattern = a.pattern; m = a.m; segments = add-zero a.segments i; rows = rows i }
    where
      rows : map (through a.m a.segments (rows_of (length P) lone)) a.rows ≡ a.rows
      rows = rw (← size) (lone-behind a formed)

  -- the empty card is neutral on both sides
  pub empty_left : join (empty_card P) a ≡ ok a
  unfolding empty_card
  empty_left =
      join-ok (empty_card P) a
      (record { left = empty-beside; right = formed; sizes = sym size; patterns = sym bytes; fits = omega (arith, formed.count) })
      ∙ ap ok joined-left

  pub empty_right : join a (empty_card P) ≡ ok a
  unfolding empty_card
  empty_right =
      join-ok a (empty_card P)
      (record { left = formed; right = empty-beside; sizes = size; patterns = bytes; fits = omega (arith, formed.count) })
      ∙ ap ok joined-right
