-- What the calls answer, as their contracts say it.
use Prim.Native.Nat.{ℕ}
use mathlib.Core.Path.{◌≡◌}
use mathlib.Core.List.{List}
use Rattle.text.specs.Refusal.{Outcome}
use Rattle.text.specs.Card.{Row, join, ask}
use Rattle.text.specs.declared.strand.Strand.{Strand}
use Rattle.card.specs.declared.cards.Card.{Card as Held}
use Rattle.card.specs.declared.answers.Made.{Made}
use Rattle.card.specs.Cards.{card_in}
use Rattle.card.specs.Answers.{empty_on, carding_on, made}

-- `Card::empty`, `Card::of`, `Card::join`, and what is told of `Card::ask`
abbrev pub emptying : List ℕ → Strand → Made
emptying P strand = made (empty_on P strand)

abbrev pub making : List ℕ → Strand → List ℕ → Made
making P strand s = made (carding_on P strand s)

abbrev pub joining : Held → Held → Made
joining a b = made (join (card_in a) (card_in b))

abbrev pub asking : Held → ℕ → Outcome Row
asking a st = ask (card_in a) st

-- an answer that accepts
abbrev pub Accepts : Made → Type 0
Accepts r = r.refusal.number ≡ 0
