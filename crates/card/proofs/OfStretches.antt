-- The rows over a stretch: what the search from the fresh state tells of it, and what its segments make of the rows of no segments.
use Prim.Native.Nat.{ℕ, zero, suc, ◌+◌, ◌^◌, ◌≤◌, ◌<◌}
use native.Mathlib.Omega.{arith}
use native.Mathlib.Decide.{dec_lt}
use mathlib.Core.Path.{◌≡◌, refl, sym, ap, subst, ◌∙◌}
use mathlib.Core.Logic.{by_cases}
use mathlib.Core.List.{List, [], ◌++◌}
use borrow.Author.Tests.{le-leb}
use lib.Dec.{leb}
use lib.ListN.{length, take, drop, set, replicate, length-set, length-take}
use lib.Seq.{ext_get_or, get_or-set_same, get_or-set_other, take-append_seam}
use Rattle.text.specs.Text.{Text}
use Rattle.text.specs.State.{fresh, run, marks_from}
use Rattle.text.specs.Refusal.{Outcome, ok, refused, demand, after, pattern, SoundPattern}
use Rattle.text.specs.Card.{Row, Card, none, dead, row, first_end, ran, card_of, empty_card}
use Rattle.text.proofs.Outcomes.{ok-inj, after-met, after-after, told-met, told-refused}
use Rattle.text.proofs.Patterns.{pattern-sound, pattern-after}
use Rattle.text.proofs.Marks.{marks-length}
use Rattle.text.proofs.Rows.{length-rows_of, rows_of-from}
use Rattle.text.proofs.TextCards.{row-text, empty-text}
use Rattle.layout.specs.Bytes.{over}
use Rattle.layout.specs.Pieces.{most_in_stretch}
use Rattle.layout.specs.Reading.{stretch_of}
use Rattle.layout.specs.Bytes.{left_by}
use Rattle.layout.proofs.Frames.{stretch-whole}
use Rattle.layout.proofs.Stretches.{stretch-most}
use Rattle.search.specs.Answers.{Seen, seen_from, into, stretch_into, searching, seeking}
use Rattle.search.proofs.Searches.{fresh-searching}
use Rattle.std.proofs.Common.{Ok}
use Rattle.card.specs.declared.rows.start.Rows.{Rows}
use Rattle.card.specs.declared.rows.passes.Summed.{Summed}
use Rattle.card.specs.Held.{Bases, Full, row_of, rows_in, exits_of, firsts_of, lones}
use Rattle.card.specs.Rows.{carding, summed, rowed, Rowed, RowsOf, RowZero, AreOver}
use Rattle.card.proofs.RowsHeld.{rows_out, rows-set, exits-in, firsts-in, even, full-set, rows-length}
use Rattle.card.proofs.Lones.{exits-lone, firsts-lone}

-- the rows of the card of a text
rowed-text : (P : List ℕ) (t : Text) → Bases (length P) → Rowed P t (card_of P t).rows
unfolding card_of
rowed-text P t b =
    record { each = λ q pos l. row-text P t b.some b.short q l; idle = rows_of-from (length P) (λ q. ran P (2 ^ q) t) }

-- lone exits and no first ends are the rows of no segments
pub rowed-none : (P : List ℕ) → Bases (length P) → (rows : Rows) → rows ≡ record { exits = lones (length P); firsts = replicate 64 none }
    → Rowed P [] (rows_in rows.exits rows.firsts)
unfolding empty_card
rowed-none P b rows e =
    let none-taken : Rowed P [] (empty_card P).rows = subst (λ (c : Card). Rowed P [] c.rows) (sym (empty-text P)) (rowed-text P [] b) in
    rw (e, ← exits-lone (length P), ← firsts-lone (length P), rows_out (empty_card P).rows) none-taken

-- rows 1 to m - 1 with row 0 are the card's
module _ (P : List ℕ) (t : Text) (exits firsts : List ℕ) (full : Full exits firsts) (w : Rowed P t (rows_in exits firsts))
    (b : Bases (length P)) (exit first : ℕ) (zeroth : row_of exit first ≡ ran P fresh t) where
  even-set : length (set exits 0 exit) ≡ length (set firsts 0 first)
  even-set = even (full-set full 0 exit first)

  rows : List Row
  rows = set (rows_in exits firsts) 0 (row_of exit first)

  each : (q : ℕ) → row rows q ≡ row (card_of P t).rows q
  unfolding card_of rows
  each zero =
      let here : 0 < length (rows_in exits firsts) = omega (arith, rows-length full) in
      get_or-set_same (rows_in exits firsts) 0 (row_of exit first) dead here
      ∙ zeroth
      ∙ sym (row-text P t b.some b.short 0 b.some)
  each (suc q) =
      let pos : 0 < suc q = omega arith in
      get_or-set_other (rows_in exits firsts) 0 (suc q) (row_of exit first) dead (λ z. omega arith)
      ∙ by_cases (dec_lt (suc q) (length P))
      (λ (h : suc q < length P). w.each (suc q) pos h ∙ sym (row-text P t b.some b.short (suc q) h))
      (λ (h : ¬ (suc q < length P)).
      let far : length P ≤ suc q = omega arith in
      w.idle (suc q) far ∙ sym (rows_of-from (length P) (λ q. ran P (2 ^ q) t) (suc q) far))

  rows_are : rows_in (set exits 0 exit) (set firsts 0 first) ≡ (card_of P t).rows
  unfolding card_of rows
  rows_are =
      let long = length-set (rows_in exits firsts) 0 (row_of exit first) ∙ rows-length full in
      rows-set exits firsts 0 exit first (even full)
      ∙ ext_get_or dead rows (card_of P t).rows (long ∙ sym (length-rows_of (length P) (λ q. ran P (2 ^ q) t))) (λ q l. each q)

  pub rows_told : (segments : ℕ) → length t ≡ segments
      → record { segments = segments; rows = record { exits = set exits 0 exit; firsts = set firsts 0 first } }
      ≡ summed (card_of P t)
  unfolding card_of
  rows_told segments count =
      λ i.
      record {
        segments = sym count i;
        rows =
            record {
              exits = (sym (exits-in (set exits 0 exit) (set firsts 0 first) even-set) ∙ ap exits_of rows_are) i;
              firsts = (sym (firsts-in (set exits 0 exit) (set firsts 0 first) even-set) ∙ ap firsts_of rows_are) i;
            };
      }

module _ (P s : List ℕ) (segments exit first : ℕ) (z : RowZero P s segments (row_of exit first))
    (exits firsts : List ℕ) (full : Full exits firsts) (w : RowsOf P s (rows_in exits firsts)) where
  pub all-over :
      AreOver P s
      (record { segments = segments; rows = record { exits = set exits 0 exit; firsts = set firsts 0 first } })
  all-over t h =
      let same : z.sound.text ≡ t = ok-inj (sym z.sound.read ∙ h) in
      rows_told P t exits firsts full (w t h) z.bases exit first (z.is ∙ ap (ran P fresh) same)
      segments (ap length (sym same) ∙ z.sound.count)

-- what the search from the fresh state says of a stretch that it accepts, with `out` as the buffer for the marks
pub record Accepted (P s out : List ℕ) (segments bits : ℕ) : Type 0 where
  pub pattern : SoundPattern P
  pub text : Text
  pub found : seeking P fresh s (length out) ≡ ok text
  pub read : stretch_of s ≡ ok text
  pub count : length text ≡ segments
  pub state : run P fresh text ≡ bits

-- with room for every mark neither 17 nor 10 can arise
module _ (P s out : List ℕ) (room : length out ≡ most_in_stretch) where
  roomy : stretch_into s (length out) ≡ stretch_of s
  unfolding into
  roomy = go (stretch_of s) refl
    where
      go : (o : Outcome Text) → stretch_of s ≡ o → after o (λ t. demand (leb (length t) (length out)) 10 0 (ok t)) ≡ o
      go (ok t) e =
          let few : length t ≤ length out = omega (arith, stretch-most s t e) in
          rw (le-leb (length t) (length out) few)
      go (refused n p) e = refl

  sought : seeking P fresh s (length out) ≡ after (pattern P (ok (tt {0}))) (λ _. stretch_of s)
  unfolding searching
  sought = fresh-searching P P s out ∙ ap (pattern P) roomy ∙ pattern-after P (stretch_of s)

  carding-is : carding P s ≡ after (seeking P fresh s (length out)) (λ t. ok (card_of P t))
  unfolding carding
  carding-is =
      pattern-after P _
      ∙ sym
      (ap (λ (o : Outcome Text). after o (λ t. ok (card_of P t))) sought
      ∙ after-after (pattern P (ok (tt {0}))) (λ _. stretch_of s) (λ t. ok (card_of P t)))

  pub of-refused : (n p : ℕ) → after (seeking P fresh s (length out)) (λ t. ok (seen_from P fresh t)) ≡ refused n p
      → carding P s ≡ refused n p
  of-refused n p e = carding-is ∙ rw (told-refused (seeking P fresh s (length out)) (seen_from P fresh) n p e)

  pub of-accepted : (segments size ends bits : ℕ)
      → after (seeking P fresh s (length out)) (λ t. ok (seen_from P fresh t))
      ≡ ok (record { segments = segments; size = size; ends = ends; state = bits })
      → Accepted P s out segments bits
  unfolding seen_from
  of-accepted segments size ends bits e =
      let (t, f, seen) =
      told-met (seeking P fresh s (length out)) (seen_from P fresh)
      (record { segments = segments; size = size; ends = ends; state = bits }) e in
      let (_, sound, read) = after-met (pattern P (ok (tt {0}))) (λ _. stretch_of s) t (sym sought ∙ f) in
      record {
        pattern = pattern-sound P sound;
        text = t;
        found = f;
        read = read;
        count = ap (λ (x : Seen). x.segments) seen;
        state = ap (λ (x : Seen). x.state) seen;
      }

  module _ (segments bits : ℕ) (a : Accepted P s out segments bits) where
    pub of-few : segments ≤ most_in_stretch
    of-few = omega (arith, stretch-most s a.text a.read, a.count)

    pub of-told : (r : Summed) → AreOver P s r → Ok r ≡ rowed (carding P s)
    of-told r h =
        let told : carding P s ≡ ok (card_of P a.text) = carding-is ∙ rw a.found in
        ap Ok (h a.text (stretch-whole s a.text a.read).1) ∙ ap rowed (sym told)

    -- the marks that are left in the buffer, and row 0
    module _ (left : List ℕ) (is : left ≡ left_by (marks_from P fresh) (seeking P fresh s (length out)) out) where
      marked : take segments left ≡ marks_from P fresh a.text
      unfolding over
      marked =
          let marks = marks_from P fresh a.text in
          ap (take segments) (is ∙ ap (λ (o : Outcome Text). left_by (marks_from P fresh) o out) a.found)
          ∙ ap (λ (n : ℕ). take n (marks ++ drop (0 + length marks) out)) (sym (marks-length P fresh a.text ∙ a.count))
          ∙ take-append_seam marks (drop (0 + length marks) out)

      pub of_room : segments ≤ length left
      of_room = omega (arith, length-take segments left, ap length marked ∙ marks-length P fresh a.text ∙ a.count)

      pub of_zero : (first : ℕ) → first ≡ first_end (take segments left) → RowZero P s segments (row_of bits first)
      unfolding ran
      of_zero first h =
          record {
            bases = record { some = a.pattern.some; short = a.pattern.short };
            sound = record { text = a.text; read = (stretch-whole s a.text a.read).1; count = a.count };
            is = λ i. record { exit = sym a.state i; first = (h ∙ ap first_end marked) i };
          }
