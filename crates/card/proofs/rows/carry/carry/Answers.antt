use borrow.Author.Rules.{rules}
use mathlib.Core.Path.{refl}
use Rattle.card.proofs.Carries.{carrying-none, carrying-more, carrying-near, carrying-end, carrying-dead}
use Rattle.card.proofs.rows.carry.carry.Goals as goal

pub loop-i-init : goal.loop-i-init
loop-i-init c = carrying-none _ _ _ _ c.requires

pub returns-then-d-eq0 : goal.returns-then-d-eq0
returns-then-d-eq0 c = carrying-dead _ _ _ _ c.requires _ _ _ c.loop-i.invariant c.if-d-eq0.true

pub overflow_shr-finished : goal.overflow_shr-finished
overflow_shr-finished c =
    carrying-near _ _ _ _ c.requires _ _ _ c.loop-i.invariant c.if-d-eq0.false

pub loop-i-preserved : goal.loop-i-preserved
loop-i-preserved c =
    carrying-more _ _ _ _ _ _ _ _ c.requires c.loop-i.invariant c.loop-i-test.true _ refl (search rules) refl

pub returns : goal.returns
returns c =
    carrying-end _ _ _ _ c.requires _ _ _ _ c.loop-i.invariant c.loop-i-test.false c.low.ensures
