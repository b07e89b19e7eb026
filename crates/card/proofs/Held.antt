-- Laws of cards as the calls hold them.
use mathlib.Core.Path.{◌≡◌}
use Rattle.text.specs.Card.{Card}
use Rattle.card.specs.Held.{Full}
use Rattle.card.proofs.RowsHeld.{rows_out, exits-in, firsts-in, even}
use Rattle.card.specs.declared.cards.Card.{Card as Held}
use Rattle.card.specs.Cards.{card_in, card_out}

-- a card that is held and read again
pub in-out : (c : Card) → card_in (card_out c) ≡ c
in-out c = λ i. record { pattern = c.pattern; m = c.m; segments = c.segments; rows = rows_out c.rows i }

-- a card that is read and held again
pub out-in : (c : Held) → Full c.exits c.firsts → card_out (card_in c) ≡ c
out-in c full =
    λ i.
    record {
      pattern = c.pattern;
      m = c.m;
      segments = c.segments;
      exits = exits-in c.exits c.firsts (even full) i;
      firsts = firsts-in c.exits c.firsts (even full) i;
    }
