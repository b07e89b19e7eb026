use mathlib.Core.Path.{sym}
use Rattle.text.proofs.Likes.{like-lengths, like-none, like-more, like-stop, like-all}
use Rattle.text.proofs.compare.alike.Goals as goal

pub returns-then-a-b : goal.returns-then-a-b
returns-then-a-b c = sym (like-lengths _ _ c.if-a-b.true)

pub loop-k-init : goal.loop-k-init
loop-k-init c = like-none c.args.a.now c.args.b.now c.if-a-b.false

pub returns-then-differ : goal.returns-then-differ
returns-then-differ c =
    sym (like-stop _ _ _ c.loop-k.invariant c.loop-k-test.true c.differ.ensures c.if-differ.true)

pub loop-k-preserved : goal.loop-k-preserved
loop-k-preserved c =
    like-more c.args.a.now c.args.b.now _
    c.loop-k.invariant c.loop-k-test.true c.differ.ensures c.if-differ.false

pub returns : goal.returns
returns c = sym (like-all _ _ _ c.loop-k.invariant c.loop-k-test.false)
