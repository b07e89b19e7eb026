-- Three cards: both groupings have the same fate.
use Prim.Native.Nat.{◌+◌, ◌≤◌}
use native.Mathlib.Omega.{arith}
use mathlib.Core.Path.{◌≡◌, sym, ◌∙◌}
use Rattle.text.specs.Refusal.{ok, after}
use Rattle.text.specs.Card.{Card, most_segments}
use Rattle.text.specs.Card.{joined, join}
use Rattle.text.proofs.Outcomes.{SameFate, after-met, same-fate}
use Rattle.text.proofs.Cards.Joined.{Joinable, joined-assoc, joinable-well, join-ok, join-met}

-- three cards that can be joined
record Three (a b c : Card) : Type 0 where
  first : Joinable a b
  second : Joinable b c
  fits : a.segments + b.segments + c.segments ≤ most_segments

-- a grouping that is accepted says that the three can be joined
from-left : (a b c z : Card) → after (join a b) (λ x. join x c) ≡ ok z → Three a b c
unfolding joined
from-left a b c z e =
    let t = after-met (join a b) (λ x. join x c) z e in
    let j = join-met a b t.0 t.1 in
    let k = join-met (joined a b) c z (rw (join-ok a b j) at e) in
    record {
      first = j;
      second = record {
        left = j.right;
        right = k.right;
        sizes = sym j.sizes ∙ k.sizes;
        patterns = sym j.patterns ∙ k.patterns;
        fits = omega arith;
      };
      fits = k.fits;
    }

from-right : (a b c z : Card) → after (join b c) (λ y. join a y) ≡ ok z → Three a b c
unfolding joined
from-right a b c z e =
    let t = after-met (join b c) (λ y. join a y) z e in
    let j = join-met b c t.0 t.1 in
    let k = join-met a (joined b c) z (rw (join-ok b c j) at e) in
    record {
      first = record { left = k.left; right = j.left; sizes = k.sizes; patterns = k.patterns; fits = omega arith };
      second = j;
      fits = omega arith;
    }

-- three cards that can be joined are accepted in either grouping, with the same card
to-left : (a b c : Card) → Three a b c → after (join a b) (λ x. join x c) ≡ ok (joined (joined a b) c)
unfolding joined
to-left a b c t =
    rw (join-ok a b t.first)
    (join-ok (joined a b) c
    (record {
      left = joinable-well a b t.first;
      right = t.second.right;
      sizes = t.first.sizes ∙ t.second.sizes;
      patterns = t.first.patterns ∙ t.second.patterns;
      fits = t.fits;
    }))

to-right : (a b c : Card) → Three a b c → after (join b c) (λ y. join a y) ≡ ok (joined (joined a b) c)
unfolding joined
to-right a b c t =
    rw (join-ok b c t.second, joined-assoc a b c t.first.sizes)
    (join-ok a (joined b c)
    (record {
      left = t.first.left;
      right = joinable-well b c t.second;
      sizes = t.first.sizes;
      patterns = t.first.patterns;
      fits = omega arith;
    }))

-- of three cards, both groupings accept with the same card, or both refuse
pub grouping : (a b c : Card) → SameFate (after (join a b) (λ x. join x c)) (after (join b c) (λ y. join a y))
grouping a b c =
    same-fate (after (join a b) (λ x. join x c)) (after (join b c) (λ y. join a y)) (joined (joined a b) c)
    (from-left a b c) (from-right a b c) (to-left a b c) (to-right a b c)
