-- What the calls on cards answer, from the tests that lead there.
use Prim.Native.Nat.{ℕ, ◌-◌, ◌^◌, ◌<◌, ◌≤◌, ◌+◌}
use native.Mathlib.Omega.{arith}
use mathlib.Core.Path.{◌≡◌, refl, ap, ◌∙◌}
use mathlib.Core.Bool.{true, false}
use borrow.Author.Tests.{le-leb, lt-leb, eq-eqb, ne_eqb, ltb-true}
use lib.Dec.{ltb}
use Rattle.text.specs.Bits.{bit}
use Rattle.text.specs.State.{is_state}
use Rattle.text.specs.Compare.{same}
use Rattle.text.specs.Refusal.{Outcome, ok, refused}
use Rattle.card.specs.Answers.{made, made_of, held}
use Rattle.text.specs.Card.{Row, Card, most_segments, follow, well_formed, same_pattern, joined, join, ask}
use Rattle.text.proofs.Truth.{and_right}
use Rattle.text.proofs.Cards.Formed.{WellFormed, well}
use Rattle.card.proofs.Joins.{exit_small}
use Rattle.card.proofs.Follows.{follow-short}

-- two cards of one pattern
module _ (a b : Card) where
  pub sizes-differ : (a.m ≡ b.m → ⊥) → false ≡ same_pattern a b
  unfolding same_pattern
  sizes-differ ne = rw (ne_eqb a.m b.m ne)

  pub sizes-same : a.m ≡ b.m → same a.pattern b.pattern ≡ same_pattern a b
  unfolding same_pattern
  sizes-same e = rw (eq-eqb a.m b.m e)

-- a join: 11 of the left, 11 of the right, 12, 13
module _ (a b : Card) where
  pub join-left-malformed : well_formed a ≡ false → join a b ≡ refused 11 0
  unfolding join
  join-left-malformed left = rw left

  module _ (left : well_formed a ≡ true) where
    pub join-right-malformed : well_formed b ≡ false → join a b ≡ refused 11 1
    unfolding join
    join-right-malformed right = rw (left, right)

    module _ (right : well_formed b ≡ true) where
      pub join-differ : same_pattern a b ≡ false → join a b ≡ refused 12 0
      unfolding join
      join-differ pattern = rw (left, right, pattern)

      module _ (pattern : same_pattern a b ≡ true) where
        pub join-long : most_segments - a.segments < b.segments → join a b ≡ refused 13 0
        unfolding join
        join-long l =
            let long : most_segments < a.segments + b.segments = omega arith in
            rw (left, right, pattern, lt-leb _ most_segments long)

        pub join-fits : b.segments ≤ most_segments - a.segments → join a b ≡ ok (joined a b)
        unfolding join
        join-fits l =
            let fits : a.segments + b.segments ≤ most_segments = omega (arith, ((well a).0 left).count) in
            rw (left, right, pattern, le-leb _ most_segments fits)

-- an ask: 11, 17
module _ (a : Card) (st : ℕ) where
  pub ask-malformed : well_formed a ≡ false → refused 11 0 ≡ ask a st
  unfolding ask
  ask-malformed e = rw e

  module _ (e : well_formed a ≡ true) where
    pub ask-wrong : is_state a.m st ≡ false → refused 17 0 ≡ ask a st
    unfolding ask
    ask-wrong state = rw (e, state)

    pub ask-follow : (r : Row) → is_state a.m st ≡ true → r ≡ follow 64 a.rows st → ok r ≡ ask a st
    unfolding ask is_state
    ask-follow r state h =
        let w : WellFormed a = (well a).0 e in
        let small : st < 2 ^ a.m = ltb-true st (2 ^ a.m) (and_right (bit st 0) (ltb st (2 ^ a.m)) state) in
        rw (e, state) (ap ok (h ∙ follow-short a.m a.rows st w.short small (exit_small a w)))

-- what comes of two cards, of a stretch or of no segments is told as the definitions say
pub made-held : (o : Outcome Card) → made_of (held o) ≡ made o
made-held (ok c) = refl
made-held (refused n p) = refl
