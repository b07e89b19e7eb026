use Rattle.text.proofs.Padding.{padding-none}
use Rattle.text.proofs.Strands.{turned_more, turned-all}
use Rattle.text.proofs.strand.turned.Goals as goal

pub loop-i-init : goal.loop-i-init
loop-i-init c = padding-none _

pub loop-i-preserved : goal.loop-i-preserved
loop-i-preserved c =
    turned_more _ _ _ c.loop-i.invariant _ c.complement.ensures c.requires c.loop-i-test.true

pub returns : goal.returns
returns c = turned-all _ _ _ c.loop-i.invariant c.loop-i-test.false
