-- A card is made from what came of it: beside a refusal it is the card of all zeros.
use mathlib.Core.Path.{sym, ap}
use Rattle.card.specs.Answers.{zero_card, made_of}
use Rattle.card.proofs.answers.MadeFromResultCardRefusal.from.Goals as goal

pub returns-in-Err : goal.returns-in-Err
unfolding zero_card
returns-in-Err c = sym (ap made_of c.in-Err.is)
