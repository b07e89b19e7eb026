-- What the calls on cards answer, in document 01's numbers and values.
use Rattle.std.specs.Prelude.{ℕ, List, replicate, Result, Ok, Err}
use Rattle.text.specs.Refusal.{Outcome, ok, refused, greatest_pattern, pattern, Answer, answer}
use Rattle.text.specs.Card.{Row, Card, empty}
use Rattle.text.specs.Strand.{on_strand}
use Rattle.text.specs.declared.strand.Strand.{Strand}
use Rattle.text.specs.declared.refusal.Refusal.{Refusal}
use Rattle.card.specs.Rows.{carding}
use Rattle.card.specs.declared.cards.Card.{Card as Held}
use Rattle.card.specs.declared.follow.Row.{Row as Pair}
use Rattle.card.specs.declared.answers.Made.{Made}
use Rattle.card.specs.declared.answers.Asked.{Asked}
use Rattle.card.specs.declared.answers.Asked.TheVariants.{Told}
use Rattle.card.specs.Cards.{card_out, row_in}

-- the card of no segments and of a stretch, of the pattern that a strand reads, after 1, 2, 3 of the pattern as given
unfoldable pub empty_on : List ℕ → Strand → Outcome Card
empty_on P strand = pattern P (empty (on_strand strand P))

unfoldable pub carding_on : List ℕ → Strand → List ℕ → Outcome Card
carding_on P strand s = pattern P (carding (on_strand strand P) s)

-- the card of all zeros
unfoldable pub zero_card : Held
zero_card =
    let zeros : List ℕ = replicate greatest_pattern 0 in
    record { pattern = zeros; m = 0; segments = 0; exits = zeros; firsts = zeros }

abbrev pub accepted : Held → Made
accepted c = record { refusal = record { number = 0; place = 0 }; card = c }

-- the one answer for each outcome: 0 at 0 and the card, or the number, the place and the card of all zeros
abbrev pub made : Outcome Card → Made
made (ok c) = accepted (card_out c)
made (refused n p) = record { refusal = record { number = n; place = p }; card = zero_card }

-- the same before it is told: a held card, or a refusal
abbrev pub held : Outcome Card → Result Held Refusal
held (ok c) = Ok (card_out c)
held (refused n p) = Err (record { number = n; place = p })

abbrev pub made_of : Result Held Refusal → Made
made_of (Ok c) = accepted c
made_of (Err r) = record { refusal = r; card = zero_card }

abbrev pub told_asked : Asked → Outcome Row
told_asked (Told state first) = ok (record { exit = state.bits; first = first })
told_asked (Asked.Refused r) = refused r.number r.place

-- the same in numbers
abbrev pub zero_row : Row
zero_row = record { exit = 0; first = 0 }

abbrev pub answer_asked : Asked → Answer Row
answer_asked r = answer zero_row (told_asked r)

-- the same before it is told
abbrev pub asked_of : Result Pair Refusal → Asked
asked_of (Ok r) = Told (record { bits = r.exit }) r.first
asked_of (Err r) = Asked.Refused r

abbrev pub shown : Result Pair Refusal → Outcome Row
shown (Ok r) = ok (row_in r)
shown (Err r) = refused r.number r.place
