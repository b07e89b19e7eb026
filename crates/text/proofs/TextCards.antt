-- Cards of texts: what a card's rows make of a state is what running the text makes of it, so the card of two texts end to end
-- is the join of their cards; and what row q says, by the relation.
use Prim.Native.Nat.{ℕ, ◌+◌, ◌^◌, ◌<◌, ◌≤◌, min}
use native.Mathlib.Omega.{arith}
use native.Mathlib.Nat.{le_refl}
use native.Mathlib.Decide.{dec_lt}
use mathlib.Core.Path.{◌≡◌, refl, sym, ap, ◌∙◌}
use mathlib.Core.Logic.{◌↔◌, by_cases}
use mathlib.Core.Bool.{true}
use mathlib.Core.List.{List, [], ◌++◌, map}
use borrow.Author.Tests.{ltb-true}
use lib.Dec.{ltb}
use lib.ListN.{length, get_or, length-append}
use lib.Pow.{pow-lt}
use Rattle.text.specs.Text.{Text}
use Rattle.text.specs.Occurrence.{EndsIn, Passes, Finishes}
use Rattle.text.specs.Bits.{bit}
use Rattle.text.specs.State.{is_state, run, marks_from}
use Rattle.text.specs.Refusal.{ok, greatest_pattern, SoundPattern}
use Rattle.text.specs.Card.{Row, none, dead, row, later, first_end, ran, rows_of, card_of, empty_card, follow, onward, through, joined}
use Rattle.text.specs.Card.{join, ask, padded, most_segments}
use Rattle.text.proofs.Truth.{and_right}
use Rattle.text.proofs.Bits.{bit-single, lone-bit}
use Rattle.text.proofs.Steps.{Carries, afresh, carrying}
use Rattle.text.proofs.Runs.{Begun, run-open, run-lt, run_is, is-run}
use Rattle.text.proofs.Marks.{run-append, marks-append, marks-length, mark-is, is-mark}
use Rattle.text.proofs.Ends.{first_end-le, first_end-append, first_end-least, first_end-mark, first_end-end}
use Rattle.text.proofs.Rows.{through-dead, map_rows, length-rows_of, rows_of-below, rows_of-from, follow-rows_of}
use Rattle.text.proofs.Cards.{LiveRow, WellFormed, well, join-ok, take-padded}
use Rattle.text.proofs.Linear.{run-linear, first-linear, lone-fresh, lone-carried}

-- two texts end to end: run the first, and the second from where it ends
pub ran_append : (P : List ℕ) (st : ℕ) (T U : Text) → ran P st (T ++ U) ≡ onward (length T) (ran P st T) (ran P (run P st T) U)
unfolding ran onward
ran_append P st T U = λ i. record { exit = run-append P st T U i; first = ends i }
  where
    ends : first_end (marks_from P st (T ++ U)) ≡ min (first_end (marks_from P st T)) (later (length T) (first_end (marks_from P (run P st T) U)))
    ends = rw (marks-append, first_end-append, marks-length)

-- what a card's rows make of a state is what running the text makes of it
pub follow-text : (P : List ℕ) (st : ℕ) (T : Text) → 0 < length P → length P ≤ greatest_pattern → st < 2 ^ length P →
    follow (length P) (card_of P T).rows st ≡ ran P st T
unfolding card_of ran
follow-text P st T some short small =
    follow-rows_of (length P) (λ q. ran P (2 ^ q) T) st short
    ∙ λ i. record { exit = run-linear P st T some small i; first = first-linear P st T some i }

-- rows sent through a map that keeps dead rows dead
map-rows_of : (m : ℕ) (f g : ℕ → Row) (h : Row → Row) → m ≤ greatest_pattern → h dead ≡ dead → ((q : ℕ) → q < m → h (f q) ≡ g q) →
    map h (rows_of m f) ≡ rows_of m g
map-rows_of m f g h short kept e =
    map_rows h (rows_of m f) (rows_of m g) kept (length-rows_of m f ∙ sym (length-rows_of m g)) each
  where
    each : (q : ℕ) → h (row (rows_of m f) q) ≡ row (rows_of m g) q
    each q =
        by_cases (dec_lt q m)
        (λ (l : q < m). ap h (rows_of-below m f q l short) ∙ e q l ∙ sym (rows_of-below m g q l short))
        (λ (l : ¬ (q < m)).
        let far : m ≤ q = omega arith in
        ap h (rows_of-from m f q far) ∙ kept ∙ sym (rows_of-from m g q far))

-- the card of two texts end to end is the join of their cards
pub card-append : (P : List ℕ) (T U : Text) → 0 < length P → length P ≤ greatest_pattern
    → card_of P (T ++ U) ≡ joined (card_of P T) (card_of P U)
unfolding joined card_of ran
card-append P T U some short =
    λ i. record { pattern = (card_of P T).pattern; m = length P; segments = length-append T U i; rows = sym rows i }
  where
    next : List Row
    next = (card_of P U).rows

    each : (q : ℕ) → q < length P → through (length P) (length T) next (ran P (2 ^ q) T) ≡ ran P (2 ^ q) (T ++ U)
    each q l =
        ap (onward (length T) (ran P (2 ^ q) T)) (follow-text P (run P (2 ^ q) T) U some short (run-lt P (2 ^ q) T (pow-lt l)))
        ∙ sym (ran_append P (2 ^ q) T U)

    rows : map (through (length P) (length T) next) (rows_of (length P) (λ q. ran P (2 ^ q) T))
        ≡ rows_of (length P) (λ q. ran P (2 ^ q) (T ++ U))
    rows = map-rows_of (length P) _ _ (through (length P) (length T) next) short (through-dead (length P) (length T) next) each

-- the first number of which A holds, or "none"
pub record IsFirst (A : ℕ → Type 0) (e : ℕ) : Type 0 where
  pub before : (j : ℕ) → j < e → A j → ⊥
  pub there : e < none → A e

-- the first end is the first mark that is 1
first-mark : (l : List ℕ) → IsFirst (λ j. get_or l j 0 ≡ 1) (first_end l)
first-mark l = record { before = (first_end-least l (first_end l) (first_end-le l)).0 (le_refl (first_end l)); there = first_end-mark l }

is-first-map : {A B : ℕ → Type 0} (e : ℕ) → ((j : ℕ) → A j ↔ B j) → IsFirst A e → IsFirst B e
is-first-map e f h = record { before = λ j l b. h.before j l ((f j).1 b); there = λ l. (f e).0 (h.there l) }

module _ (P : List ℕ) (T : Text) (some : 0 < length P) (short : length P ≤ greatest_pattern) where
  -- row q of the card of a text is what comes of a lone q carried in
  pub row-text : (q : ℕ) → q < length P → row (card_of P T).rows q ≡ ran P (2 ^ q) T
  unfolding card_of
  row-text q l = rows_of-below (length P) (λ q. ran P (2 ^ q) T) q l short

  -- row 0 exits as the lengths that are begun in the text, and its first end is the first occurrence's
  pub fresh-exit : (r : ℕ) → 0 < r → r < length P → (bit (row (card_of P T).rows 0).exit r ≡ true) ↔ Begun P T r
  unfolding ran
  fresh-exit r pos l =
      rw (row-text 0 some)
      (λ e. lone-fresh P (run_is P (2 ^ 0) T r pos l e), λ b. is-run P (2 ^ 0) T r pos l (afresh ((lone-bit 0 0).1 refl) b))

  pub fresh-first : IsFirst (EndsIn P T) (row (card_of P T).rows 0).first
  unfolding ran
  fresh-first =
      rw (row-text 0 some)
      (is-first-map (first_end (marks_from P (2 ^ 0) T))
      (λ j. (λ m. lone-fresh P (mark-is P (2 ^ 0) T j some m), λ h. is-mark P (2 ^ 0) T j some (afresh ((lone-bit 0 0).1 refl) h)))
      (first-mark (marks_from P (2 ^ 0) T)))

  module _ (q : ℕ) (carried : 0 < q) (below : q < length P) where
    lone : Carries P (2 ^ q) q
    lone = record { some = carried; short = below; carried = (lone-bit q q).1 refl }

    -- row q exits as the lengths to which a lone q passes, and its first end is the first that it finishes
    pub carried-exit : (r : ℕ) → 0 < r → r < length P → (bit (row (card_of P T).rows q).exit r ≡ true) ↔ Passes P q T r
    unfolding ran
    carried-exit r pos l =
        rw (row-text q below)
        (λ e. lone-carried P q carried (run_is P (2 ^ q) T r pos l e), λ h. is-run P (2 ^ q) T r pos l (carrying q lone h))

    pub carried_first : IsFirst (Finishes P q T) (row (card_of P T).rows q).first
    unfolding ran
    carried_first =
        rw (row-text q below)
        (is-first-map (first_end (marks_from P (2 ^ q) T))
        (λ j. (λ m. lone-carried P q carried (mark-is P (2 ^ q) T j some m), λ h. is-mark P (2 ^ q) T j some (carrying q lone h)))
        (first-mark (marks_from P (2 ^ q) T)))

module _ (P : List ℕ) (T : Text) (s : SoundPattern P) where
  ran-live : (q : ℕ) → q < length P → LiveRow (length P) (length T) q (ran P (2 ^ q) T)
  unfolding ran
  ran-live q l =
      let marks = marks_from P (2 ^ q) T in
      record {
        small = run-lt P (2 ^ q) T (pow-lt l);
        fresh = run-open P (2 ^ q) T s.some ∙ bit-single q 0;
        ends = rw (marks-length P (2 ^ q) T) at (first_end-end marks);
      }

  -- the card of a text is well formed
  pub card-well : length T ≤ most_segments → WellFormed (card_of P T)
  unfolding card_of
  card-well long =
      record {
        some = s.some;
        short = s.short;
        bytes = ap padded (sym (take-padded P));
        bases = rw take-padded s.bases;
        count = long;
        full = length-rows_of (length P) (λ q. ran P (2 ^ q) T);
        live = λ q l. rw (row-text P T s.some s.short q l) (ran-live q l);
        idle = rows_of-from (length P) (λ q. ran P (2 ^ q) T);
      }

  -- asking the card of a text tells what running the text from that state tells
  pub ask-text : (st : ℕ) → length T ≤ most_segments → is_state (length P) st ≡ true → ask (card_of P T) st ≡ ok (ran P st T)
  unfolding ask is_state card_of
  ask-text st long e =
      let small : st < 2 ^ length P = ltb-true st (2 ^ length P) (and_right (bit st 0) (ltb st (2 ^ length P)) e) in
      rw ((well (card_of P T)).1 (card-well long), e) (ap ok (follow-text P st T s.some s.short small))

-- joining the cards of two texts gives the card of the texts end to end
pub join-text : (P : List ℕ) (T U : Text) → SoundPattern P → length T + length U ≤ most_segments →
    join (card_of P T) (card_of P U) ≡ ok (card_of P (T ++ U))
unfolding card_of
join-text P T U s long =
    join-ok (card_of P T) (card_of P U)
    (record { left = card-well P T s (omega arith); right = card-well P U s (omega arith); sizes = refl; patterns = refl; fits = long })
    ∙ ap ok (sym (card-append P T U s.some s.short))

-- the empty card is the card of no segments
pub empty-text : (P : List ℕ) → empty_card P ≡ card_of P []
unfolding empty_card card_of ran run marks_from first_end
empty-text P = refl
