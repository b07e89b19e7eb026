use native.Mathlib.Omega.{arith}
use mathlib.Core.Path.{◌≡◌, sym, ◌∙◌}
use Rattle.desk_list.proofs.Skips.{skipping-none, skipping-more, skipping-stop, skipping-end}
use Rattle.desk_list.proofs.classes.past.Goals as goal

pub loop-i-init : goal.loop-i-init
loop-i-init g c = λ kind h. skipping-none _ _ _

pub returns-then-not-is-clause-value : goal.returns-then-not-is-clause-value
returns-then-not-is-clause-value g c = λ kind h.
    skipping-stop (c.loop-i.invariant kind h) c.loop-i-test.true
    (sym (h _ _ (omega (arith, c.type_inv.text c.loop-i.i)) c.is.ensures) ∙ c.if-not-is.true)

pub loop-i-preserved : goal.loop-i-preserved
loop-i-preserved g c = λ kind h.
    skipping-more (c.loop-i.invariant kind h) c.loop-i-test.true
    (sym (h _ _ (omega (arith, c.type_inv.text c.loop-i.i)) c.is.ensures) ∙ c.if-not-is.false)

pub returns-clause-value : goal.returns-clause-value
returns-clause-value g c = λ kind h.
    let p = c.loop-i.invariant kind h in
    let last : c.max.result ≡ c.loop-i.i = omega (arith, p.inside) in
    last ∙ skipping-end p c.loop-i-test.false
