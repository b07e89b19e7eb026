use borrow.Author.Rules.{rules}
use Prim.Native.Nat.{◌<◌}
use native.Mathlib.Omega.{arith}
use mathlib.Core.Path.{◌∙◌}
use Rattle.card.proofs.Follows.{following-none, following-inside, following-taken, following-passed, following-all}
use Rattle.card.proofs.cards.Card.follow.Goals as goal
use Rattle.card.proofs.cards.Card.follow.Goals.{In-loop-rest, then-rest-eq1, else-rest-eq1}

-- a bit is left, so q is a row
inside : (c : In-loop-rest) → c.loop-rest.q < 64
inside c =
    following-inside _ _ _ _ _ _ _ c.loop-rest.invariant c.ranges.state.fits c.loop-rest-test.true

pub loop-rest-init : goal.loop-rest-init
loop-rest-init c = following-none _ _ _

pub overflow_add-q : goal.overflow_add-q
overflow_add-q c = omega (arith, inside (goal.at.overflow_add-q c).In-loop-rest)

pub loop-rest-preserved : goal.loop-rest-preserved
loop-rest-preserved c =
    let h = c.loop-rest.invariant in
    let l = inside (goal.at.loop-rest-preserved c).In-loop-rest in
    elim c.if-rest-eq1.branch [
      | then-rest-eq1 w ↦ following-taken _ _ _ _ _ _ _ h _ _ l w.if-rest-eq1.true w.exit-is (w.first-is ∙ w.earlier-first.ensures)
      | else-rest-eq1 w ↦ following-passed _ _ _ _ _ _ _ h _ _ l w.if-rest-eq1.false w.exit-is w.first-is
    ]

pub returns : goal.returns
returns c =
    following-all _ _ _ _ _ _ _ c.loop-rest.invariant (record { states = search rules; ends = search rules }) (omega arith) c.loop-rest-test.false
