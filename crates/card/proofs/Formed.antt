-- The test of a card, as the code makes it: row by row, and then the whole card.
use Prim.Native.Nat.{ℕ, ◌+◌, ◌%◌, ◌^◌, ◌<◌, ◌≤◌}
use native.Mathlib.Numerals.{add-one}
use native.Mathlib.Omega.{arith}
use mathlib.Core.Path.{◌≡◌, refl, sym, ap, subst, ◌∙◌}
use mathlib.Core.Logic.Iff
use mathlib.Core.Bool.{Bool, true, false, ◌&&◌, ◌||◌, beq, true≢false, false≢true}
use mathlib.Core.List.{List}
use borrow.Author.Tests.{lt-ltb, le-ltb, le-leb, lt-leb}
use lib.Dec.{eqb, ltb, leb}
use lib.ListN.{length, take, get_or, drop_of_length-le}
use lib.Seq.{drop-cons, length-take-le}
use Rattle.text.specs.Letter.{base, every}
use Rattle.text.specs.Compare.{same}
use Rattle.text.specs.Bits.{low}
use Rattle.text.specs.Refusal.{ok, refused, pattern, outcome, SoundPattern}
use Rattle.text.specs.Card.{Row, none, most_segments, dead, padded, is_row, are_rows, well_formed}
use Rattle.text.proofs.Truth.{and-true, and-false, and_assoc, not-true-false}
use Rattle.text.proofs.Tests.{and-test, lt_test, le_test, same_test}
use Rattle.text.proofs.Outcomes.{refused-ok}
use Rattle.text.specs.declared.refusal.Refusal.{Refusal}
use Rattle.std.proofs.Common.{Result, Ok, Err}
use Rattle.std.specs.Result.{is_ok}
use Rattle.text.proofs.Patterns.{sound-pattern, pattern-sound}
use Rattle.text.proofs.Bits.{bit-first}
use Rattle.text.proofs.States.{within_low}
use Rattle.card.specs.declared.cards.Card.{Card as Held}
use Rattle.card.specs.Held.{row_of, rows_in, Full}
use Rattle.card.specs.Cards.{card_in, is_padded, rows_from, IsTest}
use Rattle.card.proofs.RowsHeld.{rows-length, rows_row}

-- a row below m: bit 0 is set in row 0 alone, no bit from m up is, and its first end is in a segment or "none"
pub row_below : (m n q exit first all : ℕ) → q < m → all ≡ low m → exit < 2 ^ 64
    → (beq (eqb (exit % 2) 1) (eqb q 0) && leb exit all && (eqb first none || ltb first n)) ≡ is_row m n q (row_of exit first)
unfolding is_row
row_below m n q exit first all l e small = rw (lt-ltb q m l, bit-first, e, within_low m exit small)

-- a row from m up
pub row-idle : (m n q exit first : ℕ) → m ≤ q → (eqb exit 0 && eqb first none) ≡ is_row m n q (row_of exit first)
unfolding is_row
row-idle m n q exit first l = rw (le-ltb q m l)

-- `sound` is the test of the rows from b up to q, of those from b up to e
pub record Tested (m n : ℕ) (rows : List Row) (b e q : ℕ) (sound : Bool) : Type 0 where
  pub test : IsTest m n rows b q sound
  pub past : b ≤ q
  pub inside : q ≤ e

pub tested-none : (m n : ℕ) (rows : List Row) (b e : ℕ) → b ≤ e → Tested m n rows b e b true
tested-none m n rows b e l = record { test = refl; past = omega arith; inside = l }

module _ (m n : ℕ) (es fs : List ℕ) (full : Full es fs) where
  this : (q : ℕ) → q < 64
      → rows_from m n (rows_in es fs) q ≡ (is_row m n q (row_of (get_or es q 0) (get_or fs q 0)) && rows_from m n (rows_in es fs) (q + 1))
  unfolding are_rows
  this q l =
      let inside : q < length (rows_in es fs) = omega (arith, rows-length full) in
      rw (add-one, drop-cons (rows_in es fs) q dead inside, rows_row full q l)

  pub tested-more : (b e q : ℕ) (sound right : Bool) → Tested m n (rows_in es fs) b e q sound → e ≤ 64 → q < e
      → right ≡ is_row m n q (row_of (get_or es q 0) (get_or fs q 0))
      → Tested m n (rows_in es fs) b e (q + 1) (sound && right)
  tested-more b e q sound right h short l r =
      let rest = rows_from m n (rows_in es fs) (q + 1) in
      let next : rows_from m n (rows_in es fs) q ≡ (right && rest) = rw r (this q (omega arith)) in
      let test = h.test ∙ ap (λ (x : Bool). sound && x) next ∙ sym (and_assoc sound right rest) in
      record { test = test; past = omega arith; inside = omega arith }

  -- the rows below m and those from m up are all rows: after the last there is none
  pub tested-both : (below behind : Bool) → IsTest m n (rows_in es fs) 0 m below → IsTest m n (rows_in es fs) m 64 behind
      → (below && behind) ≡ are_rows m n 0 (rows_in es fs)
  unfolding are_rows
  tested-both below behind h k =
      let past : length (rows_in es fs) ≤ 64 = omega (arith, rows-length full) in
      let last : (behind && rows_from m n (rows_in es fs) 64) ≡ behind = rw (drop_of_length-le (rows_in es fs) past) (and-true behind) in
      sym (h ∙ ap (λ (x : Bool). below && x) (k ∙ last))

pub tested-all : (m n : ℕ) (rows : List Row) (b e q : ℕ) (sound : Bool) → Tested m n rows b e q sound → e ≤ q → IsTest m n rows b e sound
tested-all m n rows b e q sound h l =
    let end : q ≡ e = omega (arith, h.inside) in
    subst (λ (x : ℕ). IsTest m n rows b x sound) end h.test

module _ (bytes : List ℕ) (m : ℕ) (full : length bytes ≡ 64) (short : m ≤ 64) where
  pub head-long : m ≡ length (take m bytes)
  head-long = let near : m ≤ length bytes = omega arith in sym (length-take-le m bytes near)

  pub head-short : length (take m bytes) ≤ 64
  head-short = omega (arith, head-long)

  pub padded-wrong : (n p : ℕ) → pattern (take m bytes) (ok (tt {0})) ≡ refused n p → false ≡ is_padded bytes m
  unfolding is_padded
  padded-wrong n p e = sym (not-true-false _ (λ t. refused-ok n p tt (sym e ∙ sound-pattern (take m bytes) (sound t) (ok tt))))
    where
      sound : is_padded bytes m ≡ true → SoundPattern (take m bytes)
      sound t =
          let size = and-test (lt_test 0 m) (le_test m 64) in
          let zeros = and-test size (same_test bytes (padded (take m bytes))) in
          let f = (and-test zeros (Iff.rfl {A = every base (take m bytes) ≡ true})).0 t in
          record { some = omega (arith, f.0.0.0, head-long); short = head-short; bases = f.1 }

  pub padded-right : SoundPattern (take m bytes) → same bytes (padded (take m bytes)) ≡ is_padded bytes m
  unfolding is_padded
  padded-right s =
      let some : 0 < m = omega (arith, s.some, head-long) in
      rw (lt-ltb 0 m some, le-leb m 64 short, s.bases) (sym (and-true _))

  module _ (r : Result (Unit {0}) Refusal) (e : outcome r ≡ pattern (take m bytes) (ok (tt {0}))) where
    pub padded-checked : is_ok r ≡ true → same bytes (padded (take m bytes)) ≡ is_padded bytes m
    padded-checked k = padded-right (go r e k)
      where
        go : (r : Result (Unit {0}) Refusal) → outcome r ≡ pattern (take m bytes) (ok (tt {0})) → is_ok r ≡ true → SoundPattern (take m bytes)
        go (Ok u) e k = pattern-sound (take m bytes) (sym e)
        go (Err f) e k = absurd (false≢true k)

    pub padded-unchecked : is_ok r ≡ false → false ≡ is_padded bytes m
    padded-unchecked k = go r e k
      where
        go : (r : Result (Unit {0}) Refusal) → outcome r ≡ pattern (take m bytes) (ok (tt {0})) → is_ok r ≡ false → false ≡ is_padded bytes m
        go (Ok u) e k = absurd (true≢false k)
        go (Err f) e k = padded-wrong f.number f.place (sym e)

module _ (c : Held) where
  formed-is : well_formed (card_in c)
      ≡ (is_padded c.pattern c.m
      && leb c.segments most_segments
      && eqb (length (rows_in c.exits c.firsts)) 64
      && are_rows c.m c.segments 0 (rows_in c.exits c.firsts))
  unfolding well_formed is_padded
  formed-is = refl

  pub formed-long : 64 < c.m → false ≡ well_formed (card_in c)
  unfolding well_formed
  formed-long l = rw (lt-leb c.m 64 l, and-false)

  pub formed-wrong : is_padded c.pattern c.m ≡ false → false ≡ well_formed (card_in c)
  formed-wrong e = sym (formed-is ∙ rw e)

  module _ (e : is_padded c.pattern c.m ≡ true) where
    pub formed-many : most_segments < c.segments → false ≡ well_formed (card_in c)
    formed-many l = sym (formed-is ∙ rw (e, lt-leb c.segments most_segments l))

    pub formed-rows : c.segments ≤ most_segments → Full c.exits c.firsts
        → are_rows c.m c.segments 0 (rows_in c.exits c.firsts) ≡ well_formed (card_in c)
    formed-rows l full = sym (formed-is ∙ rw (e, le-leb c.segments most_segments l, rows-length full))
