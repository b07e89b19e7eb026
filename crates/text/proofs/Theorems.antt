-- What this crate proves of the definitions in specs/, theorem by theorem: read this file first. The proofs stand in the files that are
-- named on the right.
use Prim.Native.Nat.{ℕ, suc, ◌+◌, ◌<◌, ◌≤◌}
use mathlib.Core.Path.{◌≡◌}
use mathlib.Core.Logic.{◌↔◌}
use mathlib.Core.Bool.{true}
use mathlib.Core.List.{List, [], ◌++◌}
use lib.ListN.{length, take, get_or}
use Rattle.text.specs.Text.{Text}
use Rattle.text.specs.Occurrence.{Inside, Spells, EndsIn, Occurs, BeginsIn, CarriedOut, Passes, Finishes}
use Rattle.text.specs.Bits.{bit}
use Rattle.text.specs.State.{is_state, fresh, run, marks_from, marks}
use Rattle.text.specs.Refusal.{Outcome, ok, after, greatest_pattern, pattern, SoundPattern}
use Rattle.text.specs.Card.{Card, most_segments, row, padded, ran, card_of, empty_card, well_formed, joined, same_pattern, join, ask}
use Rattle.text.specs.Strand.{opposite, opposite_text, facing, on_strand, read_on}
use Rattle.text.specs.declared.strand.Strand.{Strand}
use Rattle.text.proofs.Outcomes.{SameFate}
use Rattle.text.proofs.Runs.{Begun}
use Rattle.text.proofs.Marks
use Rattle.text.proofs.Occurrences
use Rattle.text.proofs.Spellings
use Rattle.text.proofs.Spellings.{Filled}
use Rattle.text.proofs.Cards
use Rattle.text.proofs.Cards.{WellFormed}
use Rattle.text.proofs.Strands
use Rattle.text.proofs.Opposites
use Rattle.text.proofs.TextCards
use Rattle.text.proofs.TextCards.{IsFirst}

-- mark j of a text is 1 exactly when an occurrence ends in segment j
pub marks-ends : (P : List ℕ) (T : Text) (j : ℕ) → 0 < length P → (get_or (marks P T) j 0 ≡ 1) ↔ EndsIn P T j
marks-ends = Occurrences.marks-ends

-- an occurrence that ends in segment j is one from some segment up to j
pub ends-occurs : (P : List ℕ) (T : Text) (j : ℕ) → EndsIn P T j ↔ ((i : ℕ) × (i ≤ j) × Occurs P T i j)
ends-occurs = Opposites.ends-occurs

-- a string lies in some spelling of a text exactly when an occurrence of it ends in some segment
pub read-ends : (T : Text) (P : List ℕ) → 0 < length P → Filled T
    → ((h : List ℕ) × Spells T h × Inside P h) ↔ ((j : ℕ) × EndsIn P T j)
read-ends = Spellings.read-ends

-- bit r of the state after segment j is set exactly when length r is carried out of it
pub state-carried : (P : List ℕ) (T : Text) (j r : ℕ) → 0 < r → r < length P → j < length T
    → (bit (run P fresh (take (suc j) T)) r ≡ true) ↔ CarriedOut P T j r
state-carried = Occurrences.state-carried

-- a text goes on from the state of the text before it: the state, and the marks
pub run-append : (P : List ℕ) (st : ℕ) (T U : Text) → run P st (T ++ U) ≡ run P (run P st T) U
run-append = Marks.run-append

pub marks-append : (P : List ℕ) (st : ℕ) (T U : Text) → marks_from P st (T ++ U) ≡ marks_from P st T ++ marks_from P (run P st T) U
marks-append = Marks.marks-append

-- row 0 of the card of a text: the lengths that are begun in the text, and the first segment where an occurrence ends
pub fresh-exit : (P : List ℕ) (T : Text) → 0 < length P → length P ≤ greatest_pattern → (r : ℕ) → 0 < r → r < length P
    → (bit (row (card_of P T).rows 0).exit r ≡ true) ↔ Begun P T r
fresh-exit = TextCards.fresh-exit

pub fresh-first : (P : List ℕ) (T : Text) → 0 < length P → length P ≤ greatest_pattern
    → IsFirst (EndsIn P T) (row (card_of P T).rows 0).first
fresh-first = TextCards.fresh-first

-- row q of the card of a text: the lengths to which a lone q passes, and the first segment where it ends an occurrence
pub carried-exit : (P : List ℕ) (T : Text) → 0 < length P → length P ≤ greatest_pattern → (q : ℕ) → 0 < q → q < length P
    → (r : ℕ) → 0 < r → r < length P → (bit (row (card_of P T).rows q).exit r ≡ true) ↔ Passes P q T r
carried-exit = TextCards.carried-exit

pub carried_first : (P : List ℕ) (T : Text) → 0 < length P → length P ≤ greatest_pattern → (q : ℕ) → 0 < q → q < length P
    → IsFirst (Finishes P q T) (row (card_of P T).rows q).first
carried_first = TextCards.carried_first

-- joining the cards of two texts gives the card of the texts end to end
pub join-text : (P : List ℕ) (T U : Text) → SoundPattern P → length T + length U ≤ most_segments
    → join (card_of P T) (card_of P U) ≡ ok (card_of P (T ++ U))
join-text = TextCards.join-text

-- asking the card of a text tells what running the text from that state tells
pub ask-text : (P : List ℕ) (T : Text) → SoundPattern P → (st : ℕ) → length T ≤ most_segments → is_state (length P) st ≡ true
    → ask (card_of P T) st ≡ ok (ran P st T)
ask-text = TextCards.ask-text

-- the test of a card says what a card is, and joining keeps it, also of cards that belong to no text
pub well : (a : Card) → (well_formed a ≡ true) ↔ WellFormed a
well = Cards.well

pub joined-well : (a b : Card) → well_formed a ≡ true → well_formed b ≡ true → same_pattern a b ≡ true
    → a.segments + b.segments ≤ most_segments → well_formed (joined a b) ≡ true
joined-well = Cards.joined-well

-- of any three cards, both groupings accept with the same card, or both refuse
pub grouping : (a b c : Card) → SameFate (after (join a b) (λ x. join x c)) (after (join b c) (λ y. join a y))
grouping = Cards.grouping

-- the empty card is the card of no segments, and neutral on both sides of any well-formed card of its pattern
pub empty-text : (P : List ℕ) → empty_card P ≡ card_of P []
empty-text = TextCards.empty-text

pub empty_left : (P : List ℕ) (a : Card) → well_formed a ≡ true → a.pattern ≡ padded P → a.m ≡ length P → join (empty_card P) a ≡ ok a
empty_left = Cards.empty_left

pub empty_right : (P : List ℕ) (a : Card) → well_formed a ≡ true → a.pattern ≡ padded P → a.m ≡ length P → join a (empty_card P) ≡ ok a
empty_right = Cards.empty_right

-- the opposite of the opposite is the pattern
pub opposite-twice : (P : List ℕ) → opposite (opposite P) ≡ P
opposite-twice = Strands.opposite-twice

-- the opposite of P has an occurrence from i to j of T exactly when P has one from n - 1 - j to n - 1 - i of the opposite of T
pub occurs-opposite : (P : List ℕ) (T : Text) (i j : ℕ) → i < length T → j < length T
    → Occurs (opposite P) T i j ↔ Occurs P (opposite_text T) (facing T j) (facing T i)
occurs-opposite = Opposites.occurs-opposite

-- a segment is where an occurrence of the opposite ends, and is marked, exactly when an occurrence of P begins there in the opposite text
pub ends-opposite : (P : List ℕ) (T : Text) (j : ℕ) → j < length T → EndsIn (opposite P) T j ↔ BeginsIn P (opposite_text T) (facing T j)
ends-opposite = Opposites.ends-opposite

pub marks-opposite : (P : List ℕ) (T : Text) (j : ℕ) → 0 < length P → j < length T
    → (get_or (marks (opposite P) T) j 0 ≡ 1) ↔ BeginsIn P (opposite_text T) (facing T j)
marks-opposite = Opposites.marks-opposite

-- what is asked of a pattern as given need not be asked of it as a strand reads it
pub strand-asked : (strand : Strand) (P : List ℕ) {A : Type 0} (o : Outcome A) → pattern P (pattern (on_strand strand P) o) ≡ pattern P o
strand-asked = Strands.strand-asked

-- of a pattern of up to 64 bytes, the 64 bytes are those of the pattern as the strand reads it, and the first m of them are it
pub read-padded : (strand : Strand) (P : List ℕ) → length P ≤ greatest_pattern → read_on strand P ≡ padded (on_strand strand P)
read-padded = Strands.read-padded

pub read-front : (strand : Strand) (P : List ℕ) → length P ≤ greatest_pattern → take (length P) (read_on strand P) ≡ on_strand strand P
read-front = Strands.read-front
