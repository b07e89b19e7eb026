-- What the test `well_formed` says of a card, as a record of facts.
use Prim.Native.Nat.{ℕ, suc, ◌+◌, ◌^◌, ◌≤◌, ◌<◌}
use native.Mathlib.Omega.{arith}
use native.Mathlib.Decide.{dec_lt}
use native.Mathlib.Nat.{add-zero, zero-add, add-suc, suc-add}
use borrow.Author.Tests.{lt-ltb, le-ltb}
use mathlib.Core.Path.{◌≡◌, refl, ap}
use mathlib.Core.Logic.Iff
use mathlib.Core.Logic.{◌↔◌, by_cases}
use mathlib.Core.Bool.{true}
use mathlib.Core.List.{List, [], ◌∷◌}
use lib.Dec.{eqb}
use lib.ListN.{length, take, get_or-eq_default}
use lib.Seq.{take-append_seam}
use Rattle.text.specs.Letter.{base, every}
use Rattle.text.specs.Bits.{bit}
use Rattle.text.specs.Refusal.{greatest_pattern}
use Rattle.text.specs.Card.{Row, Card, none, most_segments, dead, row, padded}
use Rattle.text.specs.Card.{is_row, are_rows, well_formed}
use Rattle.text.proofs.Tests.{lt_test, le_test, eq_test, same_test, beq-test, and-test, or-test}
use Rattle.text.proofs.Each.{each_first}
use Rattle.text.proofs.Ends.{EndOf}

-- row q below m of a card of m bases and n segments, as document 01 says
pub record LiveRow (m n q : ℕ) (r : Row) : Type 0 where
  pub small : r.exit < 2 ^ m
  pub fresh : bit r.exit 0 ≡ eqb q 0
  pub ends : EndOf n r.first

-- a card as document 01 says: its pattern, its segment count, and its 64 rows, live below m and dead from m up
pub record WellFormed (a : Card) : Type 0 where
  pub some : 0 < a.m
  pub short : a.m ≤ greatest_pattern
  pub bytes : a.pattern ≡ padded (take a.m a.pattern)
  pub bases : every base (take a.m a.pattern) ≡ true
  pub count : a.segments ≤ most_segments
  pub full : length a.rows ≡ greatest_pattern
  pub live : (q : ℕ) → q < a.m → LiveRow a.m a.segments q (row a.rows q)
  pub idle : (q : ℕ) → a.m ≤ q → row a.rows q ≡ dead

live-row : (m n q : ℕ) (r : Row) → q < m → (is_row m n q r ≡ true) ↔ LiveRow m n q r
unfolding is_row
live-row m n q r l =
    let end = or-test (eq_test r.first none) (lt_test r.first n) in
    let tests = and-test (and-test (beq-test (bit r.exit 0) (eqb q 0)) (lt_test r.exit (2 ^ m))) end in
    rw (lt-ltb q m l) (
      λ t. let f = tests.0 t in record { small = f.0.1; fresh = f.0.0; ends = f.1 },
      λ w. tests.1 ((w.fresh, w.small), w.ends),
    )

idle-row : (m n q : ℕ) (r : Row) → m ≤ q → (is_row m n q r ≡ true) ↔ (r ≡ dead)
unfolding is_row
idle-row m n q r l =
    let tests = and-test (eq_test r.exit 0) (eq_test r.first none) in
    rw (le-ltb q m l) (
      λ t i. record { exit = (tests.0 t).0 i; first = (tests.0 t).1 i },
      λ e. tests.1 (ap (λ (s : Row). s.exit) e, ap (λ (s : Row). s.first) e),
    )

each_row : (m n k : ℕ) (rows : List Row)
    → (are_rows m n k rows ≡ true) ↔ ((q : ℕ) → q < length rows → is_row m n (k + q) (row rows q) ≡ true)
unfolding are_rows
each_row m n k [] = (λ t q l. absurd (let z : ⊥ = omega arith in z), λ t. refl)
each_row m n k (r ∷ rows) =
    let tests = and-test {a = is_row m n k r} Iff.rfl (each_row m n (suc k) rows) in
    let each = each_first (λ q. is_row m n (k + q) (row (r ∷ rows) q) ≡ true) (length rows) in (
      λ t. each.1 (rw add-zero (tests.0 t).0, λ q l. rw (add-suc, ← suc-add) ((tests.0 t).1 q l)),
      λ t. tests.1 (rw add-zero at (each.0 t).0, λ q l. rw (suc-add, ← add-suc) ((each.0 t).1 q l)),
    )

rows-test : (m n : ℕ) (rows : List Row) → m ≤ length rows
    → (are_rows m n 0 rows ≡ true)
    ↔ (((q : ℕ) → q < m → LiveRow m n q (row rows q)) × ((q : ℕ) → m ≤ q → row rows q ≡ dead))
rows-test m n rows short = (λ t. (alive t, asleep t), λ f. (each_row m n 0 rows).1 (λ q l. rw zero-add (test f.0 f.1 q)))
  where
    at : are_rows m n 0 rows ≡ true → (q : ℕ) → q < length rows → is_row m n q (row rows q) ≡ true
    at t q l = rw zero-add at ((each_row m n 0 rows).0 t q l)

    alive : are_rows m n 0 rows ≡ true → (q : ℕ) → q < m → LiveRow m n q (row rows q)
    alive t q l = (live-row m n q (row rows q) l).0 (at t q (omega arith))

    asleep : are_rows m n 0 rows ≡ true → (q : ℕ) → m ≤ q → row rows q ≡ dead
    asleep t q l =
        by_cases (dec_lt q (length rows))
        (λ (k : q < length rows). (idle-row m n q (row rows q) l).0 (at t q k))
        (λ (k : ¬ (q < length rows)). let long : length rows ≤ q = omega arith in get_or-eq_default rows dead long)

    test : ((q : ℕ) → q < m → LiveRow m n q (row rows q)) → ((q : ℕ) → m ≤ q → row rows q ≡ dead)
        → (q : ℕ) → is_row m n q (row rows q) ≡ true
    test live idle q =
        by_cases (dec_lt q m)
        (λ (l : q < m). (live-row m n q (row rows q) l).1 (live q l))
        (λ (l : ¬ (q < m)). let from : m ≤ q = omega arith in (idle-row m n q (row rows q) from).1 (idle q from))

-- the test says what it should
pub well : (a : Card) → (well_formed a ≡ true) ↔ WellFormed a
unfolding well_formed
well a =
    let head = take a.m a.pattern in
    let size = and-test (lt_test 0 a.m) (le_test a.m greatest_pattern) in
    let bytes = and-test (and-test size (same_test a.pattern (padded head))) (Iff.rfl {A = every base head ≡ true}) in
    let count = and-test (and-test bytes (le_test a.segments most_segments)) (eq_test (length a.rows) greatest_pattern) in
    let tests = and-test count (Iff.rfl {A = are_rows a.m a.segments 0 a.rows ≡ true}) in (
      λ t.
          let f = tests.0 t in
          let short : a.m ≤ length a.rows = omega arith in
          let rows = (rows-test a.m a.segments a.rows short).0 f.1 in
          record {
            some = f.0.0.0.0.0.0;
            short = f.0.0.0.0.0.1;
            bytes = f.0.0.0.0.1;
            bases = f.0.0.0.1;
            count = f.0.0.1;
            full = f.0.1;
            live = rows.0;
            idle = rows.1;
          },
      λ w.
          let short : a.m ≤ length a.rows = omega arith in
          let rows = (rows-test a.m a.segments a.rows short).1 (w.live, w.idle) in
          tests.1 ((((((w.some, w.short), w.bytes), w.bases), w.count), w.full), rows),
    )

-- a pattern is the first of its bytes
pub take-padded : (P : List ℕ) → take (length P) (padded P) ≡ P
unfolding padded
take-padded P = take-append_seam P _
