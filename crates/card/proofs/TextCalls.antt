-- Calls on the cards of texts and of stretches: what they make is what the definitions say of the texts end to end, and what feeding the
-- segments one by one tells.
use Prim.Native.Nat.{ℕ, ◌+◌, ◌<◌, ◌≤◌}
use native.Mathlib.Omega.{arith}
use mathlib.Core.Path.{◌≡◌, refl, sym, ap, ap₂, subst, ◌∙◌}
use mathlib.Core.Logic.{◌↔◌}
use mathlib.Core.Bool.{true}
use mathlib.Core.List.{List, [], ◌∷◌, ◌++◌, map}
use borrow.Author.Tests.{leb-true}
use lib.Dec.{leb}
use lib.ListN.{length, get_or, length-append, length-map}
use lib.Seq.{take-length}
use Rattle.text.specs.Text.{Text}
use Rattle.text.specs.Occurrence.{EndsIn}
use Rattle.text.specs.State.{is_state, fresh, run, marks_from}
use Rattle.text.specs.Refusal.{Outcome, ok, refused, after, pattern, SoundPattern}
use Rattle.text.specs.Strand.{on_strand}
use Rattle.text.specs.Card.{Row, Card, most_segments, row, first_end, ran, card_of}
use Rattle.text.proofs.Truth.{and_left, and_right}
use Rattle.text.proofs.Outcomes.{ok-inj}
use Rattle.text.specs.declared.refusal.Refusal.{Refusal}
use Rattle.text.specs.declared.strand.Strand.{Strand}
use Rattle.text.proofs.Strands.{strand-length, strand-sound}
use Rattle.text.proofs.Patterns.{pattern-after}
use Rattle.text.proofs.Marks.{marks-length, run-append, marks-append}
use Rattle.text.proofs.TextCards.{IsFirst, row-text, fresh-first, join-text, ask-text}
use Rattle.layout.specs.Bytes.{greatest_stretch, word_bytes}
use Rattle.layout.specs.Encoding.{encode_segment, encode, bytes_of, all, writable_segment, writable}
use Rattle.layout.specs.Reading.{stretch_of}
use Rattle.layout.proofs.Stands.{Bytes}
use Rattle.layout.proofs.Stretches.{stretch-most}
use Rattle.layout.proofs.Decoding.{stretch-writable}
use Rattle.layout.proofs.Encoding.{segment-of}
use Rattle.search.specs.Answers.{Next}
use Rattle.search.specs.Chain.{segments_text, feeds, mark_of}
use Rattle.search.proofs.Entries.{fresh-state}
use Rattle.search.proofs.Chains.{steps, feeds-steps, steps-marks, steps-states}
use Rattle.card.specs.Held.{row_of}
use Rattle.card.specs.Cards.{card_out}
use Rattle.card.specs.Rows.{carding}
use Rattle.card.proofs.Carded.{Carded, carded}
use Rattle.card.specs.Answers.{accepted, made}
use Rattle.card.proofs.Held.{in-out}
use Rattle.card.proofs.Strands.{carding-strand, carded-on}
use Rattle.card.proofs.Calls.{making, joining, asking, Accepts}

-- joining the cards of two texts makes the card of the texts end to end
pub joining-texts : (P : List ℕ) (T U : Text) → SoundPattern P → length T + length U ≤ most_segments
    → joining (card_out (card_of P T)) (card_out (card_of P U)) ≡ accepted (card_out (card_of P (T ++ U)))
joining-texts P T U s l = rw (in-out (card_of P T), in-out (card_of P U), join-text P T U s l)

-- the card of a text tells what running the text from that state tells
pub asking-text : (P : List ℕ) (T : Text) → SoundPattern P → (st : ℕ) → length T ≤ most_segments → is_state (length P) st ≡ true
    → asking (card_out (card_of P T)) st ≡ ok (ran P st T)
asking-text P T s st l e = rw (in-out (card_of P T)) (ask-text P T s st l e)

-- a stretch, of the pattern as a strand reads it
module _ (P : List ℕ) (strand : Strand) (s : List ℕ) where
  -- the strand says which card is made, and not whether one is
  alike : (making P strand s).refusal ≡ (made (carding P s)).refusal
  unfolding carding
  alike =
      ap (λ (o : Outcome Card). (made o).refusal) (carding-strand P strand s ∙ pattern-after P _)
      ∙ each (pattern P (ok (tt {0}))) (stretch_of s)
      ∙ sym (ap (λ (o : Outcome Card). (made o).refusal) (pattern-after P _))
    where
      each : (a : Outcome (Unit {0})) (o : Outcome Text)
          → (made (after a (λ _. after o (λ t. ok (card_of (on_strand strand P) t))))).refusal
          ≡ (made (after a (λ _. after o (λ t. ok (card_of P t))))).refusal
      each (ok u) (ok t) = refl
      each (ok u) (refused n p) = refl
      each (refused n p) o = refl

  of-carded : Accepts (making P strand s) → Carded P s
  of-carded z = carded P s (ap (λ (r : Refusal). r.number) (sym alike) ∙ z)

  pub of-accepts : Accepts (making P strand s) ↔ Carded P s
  of-accepts = (of-carded, λ c. ap (λ (o : Outcome Card). (made o).refusal.number) (carded-on P strand c))

  -- from here on an accepted one
  module _ (T : Text) (a : Accepts (making P strand s)) (e : stretch_of s ≡ ok T) where
    pub of-text : making P strand s ≡ accepted (card_out (card_of (on_strand strand P) T))
    of-text = ap made (carded-on P strand (record { sound = (of-carded a).sound; text = T; read = e }))

    sound : SoundPattern (on_strand strand P)
    sound = strand-sound strand P (of-carded a).sound

    pub asking-of : (st : ℕ) → is_state (length P) st ≡ true
        → let Q : List ℕ = on_strand strand P in
        asking (making P strand s).card st ≡ ok (row_of (run Q st T) (first_end (marks_from Q st T)))
    unfolding ran
    asking-of st i =
        let small : length T ≤ most_segments = omega (arith, stretch-most s T e) in
        rw of-text (asking-text (on_strand strand P) T sound st small (rw (strand-length strand P) i))

-- two stretches
module _ (P : List ℕ) (strand : Strand) (s t : List ℕ) (T U : Text) (a : Accepts (making P strand s)) (b : Accepts (making P strand t))
    (e : stretch_of s ≡ ok T) (f : stretch_of t ≡ ok U) where
  Q : List ℕ
  Q = on_strand strand P

  given : SoundPattern P
  given = (of-carded P strand s a).sound

  read : SoundPattern Q
  unfolding Q
  read = strand-sound strand P given

  few : length T + length U ≤ most_segments
  few = omega (arith, stretch-most s T e, stretch-most t U f)

  pub joining-of : joining (making P strand s).card (making P strand t).card ≡ accepted (card_out (card_of (on_strand strand P) (T ++ U)))
  unfolding Q
  joining-of = rw (of-text P strand s T a e, of-text P strand t U b f) (joining-texts Q T U read few)

  -- the card of a stretch whose text is the two texts end to end
  pub joining-append : (w : List ℕ) → stretch_of w ≡ ok (T ++ U)
      → joining (making P strand s).card (making P strand t).card ≡ making P strand w
  joining-append w g = joining-of ∙ ap made (sym (carded-on P strand (record { sound = given; text = T ++ U; read = g })))

  both : (st : ℕ) → is_state (length P) st ≡ true
      → asking (joining (making P strand s).card (making P strand t).card).card st ≡ ok (ran Q st (T ++ U))
  unfolding Q
  both st i =
      let small : length (T ++ U) ≤ most_segments = omega (arith, length-append T U, few) in
      rw joining-of (asking-text Q (T ++ U) read st small (rw (strand-length strand P) i))

  pub asking-joined : (st : ℕ) → is_state (length P) st ≡ true
      → let Q : List ℕ = on_strand strand P in
      asking (joining (making P strand s).card (making P strand t).card).card st
      ≡ ok (row_of (run Q (run Q st T) U) (first_end (marks_from Q st T ++ marks_from Q (run Q st T) U)))
  unfolding ran Q
  asking-joined st i =
      both st i ∙ ap₂ (λ (x : ℕ) (l : List ℕ). ok (row_of x (first_end l))) (run-append Q st T U) (marks-append Q st T U)

  -- from the fresh state: the first segment of the two texts end to end in which an occurrence ends
  pub asking-fresh : (r : Row) → asking (joining (making P strand s).card (making P strand t).card).card fresh ≡ ok r
      → IsFirst (EndsIn (on_strand strand P) (T ++ U)) r.first
  unfolding Q
  asking-fresh r h =
      let is : row (card_of Q (T ++ U)).rows 0 ≡ r =
      row-text Q (T ++ U) read.some read.short 0 read.some ∙ ok-inj (sym (both fresh (fresh-state P given.some)) ∙ h) in
      subst (λ (x : Row). IsFirst (EndsIn Q (T ++ U)) x.first) is (fresh-first Q (T ++ U) read.some read.short)

-- the state after feeds that were answered one after another from the state st
abbrev pub last_of : ℕ → List Next → ℕ
last_of st xs = get_or (st ∷ map (λ x. x.state) xs) (length xs) 0

module _ (P : List ℕ) (y : SoundPattern P) (st : ℕ) where
  steps-length : (T : Text) → length (steps P y st T) ≡ length T
  steps-length T = sym (length-map (steps P y st T) mark_of) ∙ ap length (steps-marks P y st T) ∙ marks-length P st T

  steps-last : (T : Text) → last_of st (steps P y st T) ≡ run P st T
  unfolding run
  steps-last T = ap (λ (n : ℕ). get_or (st ∷ map (λ x. x.state) (steps P y st T)) n 0) (steps-length T) ∙ last T
    where
      last : (T : Text) → get_or (st ∷ map (λ x. x.state) (steps P y st T)) (length T) 0 ≡ run P st T
      last [] = refl
      last (g ∷ T) =
          let inside : length T < length (g ∷ T) = omega arith in
          steps-states P y st (g ∷ T) (length T) inside ∙ ap (run P st) (take-length (g ∷ T))

-- what feeding lone segments one by one from the state st tells of the ask of a card
pub record Fed (P : List ℕ) (strand : Strand) (st : ℕ) (ss : List (List ℕ)) (asked : Outcome Row) : Type 0 where
  pub answers : List Next
  pub accepts : feeds P strand st ss ≡ ok answers
  pub tells : asked ≡ ok (row_of (last_of st answers) (first_end (map mark_of answers)))

pub asking-feeds : (P : List ℕ) (strand : Strand) (s : List ℕ) (T : Text) (st : ℕ) (ss : List (List ℕ)) → Accepts (making P strand s)
    → stretch_of s ≡ ok T → segments_text ss ≡ ok T → is_state (length P) st ≡ true → Fed P strand st ss (asking (making P strand s).card st)
asking-feeds P strand s T st ss a e lone i =
    let given = (of-carded P strand s a).sound in
    let Q : List ℕ = on_strand strand P in
    let y : SoundPattern Q = strand-sound strand P given in
    record {
      answers = steps Q y st T;
      accepts = feeds-steps P strand given st ss T i lone;
      tells =
          asking-of P strand s T a e st i
          ∙ sym (ap₂ (λ (x : ℕ) (l : List ℕ). ok (row_of x (first_end l))) (steps-last Q y st T) (steps-marks Q y st T));
    }

-- the segments of a stretch are such lone segments, each as its bytes
pub segments-lone : (s : List ℕ) (T : Text) → Bytes s → stretch_of s ≡ ok T → segments_text (map encode_segment T) ≡ ok T
unfolding writable encode word_bytes segments_text all bytes_of
segments-lone s T bytes e =
    let w : writable T ≡ true = stretch-writable s bytes T e in
    let good : all writable_segment T ≡ true = and_left (all writable_segment T) (leb (length (encode T)) greatest_stretch) w in
    let small = and_right (all writable_segment T) (leb (length (encode T)) greatest_stretch) w in
    each T good (omega (arith, leb-true (length (encode T)) greatest_stretch small))
  where
    each : (U : Text) → all writable_segment U ≡ true → length (bytes_of encode_segment U) ≤ greatest_stretch
        → segments_text (map encode_segment U) ≡ ok U
    each [] w l = refl
    each (g ∷ U) w l =
        let both = length-append (encode_segment g) (bytes_of encode_segment U) in
        let own : length (encode_segment g) ≤ greatest_stretch = omega arith in
        let rest : length (bytes_of encode_segment U) ≤ greatest_stretch = omega arith in
        let here = segment-of g (and_left (writable_segment g) (all writable_segment U) w) own in
        let there = each U (and_right (writable_segment g) (all writable_segment U) w) rest in
        rw (here, there)
