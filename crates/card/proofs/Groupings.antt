-- Three cards, whatever is in them: both groupings accept with the same card, or both refuse.
use native.Mathlib.Omega.{arith}
use mathlib.Core.Path.{◌≡◌, refl, ap, ◌∙◌}
use mathlib.Core.Logic.{◌⊎◌, inl, inr}
use mathlib.Core.Bool.{Bool, true, false}
use lib.Dec.{leb}
use Prim.Native.Nat.{◌+◌}
use Rattle.text.specs.Refusal.{Outcome, ok, refused, after}
use Rattle.text.specs.Card.{Card, most_segments, well_formed, same_pattern, join}
use Rattle.text.proofs.Outcomes.{SameFate}
use Rattle.text.proofs.Cards.Groupings.{grouping}
use Rattle.card.specs.declared.cards.Card.{Card as Held}
use Rattle.card.specs.declared.answers.Made.{Made}
use Rattle.card.specs.Cards.{card_in, card_out}
use Rattle.card.specs.Answers.{zero_card, accepted, made}
use Rattle.card.proofs.Held.{in-out}
use Rattle.card.proofs.Numbers.{Numbered, demand-numbered}
use Rattle.card.proofs.Answered.{join-left-malformed, join-right-malformed}
use Rattle.card.proofs.Calls.{joining, Accepts}

-- the card beside a refusal is malformed, so that joining it is refused too
zero-malformed : well_formed (card_in zero_card) ≡ false
unfolding well_formed zero_card
zero-malformed = refl

fate-refl : {A : Type 0} (o : Outcome A) → SameFate o o
fate-refl (ok a) = refl
fate-refl (refused n p) = tt

fate-trans : {A : Type 0} (o k l : Outcome A) → SameFate o k → SameFate k l → SameFate o l
fate-trans (ok a) (ok b) (ok c) x y = x ∙ y
fate-trans (ok a) (ok b) (refused n p) x y = y
fate-trans (ok a) (refused n p) l x y = absurd x
fate-trans (refused n p) (ok b) l x y = absurd x
fate-trans (refused n p) (refused m q) (ok c) x y = y
fate-trans (refused n p) (refused m q) (refused k r) x y = tt

-- a call on the card that another call made
left-fate : (o : Outcome Card) (c : Card) → SameFate (join (card_in (made o).card) c) (after o (λ x. join x c))
left-fate (ok x) c = rw (in-out x) (fate-refl (join x c))
left-fate (refused n p) c = rw (join-left-malformed (card_in zero_card) c zero-malformed) tt

right-fate : (a : Card) (o : Outcome Card) → SameFate (after o (λ y. join a y)) (join a (card_in (made o).card))
right-fate a (ok y) = rw (in-out y) (fate-refl (join a y))
right-fate a (refused n p) = either (well_formed a) refl
  where
    either : (b : Bool) → well_formed a ≡ b → SameFate {A = Card} (refused n p) (join a (card_in zero_card))
    either true e = rw (join-right-malformed a (card_in zero_card) e zero-malformed) tt
    either false e = rw (join-left-malformed a (card_in zero_card) e) tt

-- two answers that accept with the same card, or both refuse
abbrev pub Together : Made → Made → Type 0
Together r s = (Accepts r × (r ≡ s)) ⊎ ((Accepts r → ⊥) × (Accepts s → ⊥))

join-numbered : (a b : Card) → Numbered (join a b)
unfolding join
join-numbered a b =
    demand-numbered (well_formed a) 11 0 _ (λ e. omega arith)
    (demand-numbered (well_formed b) 11 1 _ (λ e. omega arith)
    (demand-numbered (same_pattern a b) 12 0 _ (λ e. omega arith)
    (demand-numbered (leb (a.segments + b.segments) most_segments) 13 0 _ (λ e. omega arith) tt)))

together : (o k : Outcome Card) → SameFate o k → Numbered o → Numbered k → Together (made o) (made k)
together (ok a) (ok b) e x y = inl (refl, ap (λ (c : Card). accepted (card_out c)) e)
together (ok a) (refused n p) e x y = absurd e
together (refused n p) (ok b) e x y = absurd e
together (refused n p) (refused m q) e x y = inr (x, y)

pub joining-grouped : (a b c : Held) → Together (joining (joining a b).card c) (joining a (joining b c).card)
joining-grouped a b c = together left right fate (join-numbered _ _) (join-numbered _ _)
  where
    left : Outcome Card
    left = join (card_in (joining a b).card) (card_in c)

    right : Outcome Card
    right = join (card_in a) (card_in (joining b c).card)

    first : Outcome Card
    first = after (join (card_in a) (card_in b)) (λ x. join x (card_in c))

    second : Outcome Card
    second = after (join (card_in b) (card_in c)) (λ y. join (card_in a) y)

    fate : SameFate left right
    fate =
        fate-trans left first right (left-fate (join (card_in a) (card_in b)) (card_in c))
        (fate-trans first second right (grouping (card_in a) (card_in b) (card_in c)) (right-fate (card_in a) (join (card_in b) (card_in c))))
