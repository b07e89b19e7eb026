use mathlib.Core.Path.{refl}
use Rattle.search.proofs.Pairs.{laid_none, laid_more, laid-all}
use Rattle.search.proofs.both.words.masks_both.Goals as goal

pub loop-c-init : goal.loop-c-init
loop-c-init c = laid_none _ _

pub loop-c-preserved : goal.loop-c-preserved
loop-c-preserved c = laid_more _ _ _ _ _ _ c.loop-c.invariant c.loop-c-test.true refl refl

pub returns : goal.returns
returns c =
    let whole = laid-all _ _ _ _ _ _ c.loop-c.invariant c.loop-c-test.false c.complements-evens.ensures c.complements-odds.ensures in record { others = whole.0; others_2 = whole.1 }
