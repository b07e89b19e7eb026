use Rattle.text.specs.Letter.{base}
use Rattle.text.proofs.Blocks.{wrong-none, wrong-more, wrong-all}
use Rattle.text.proofs.pattern.any_other.Goals as goal

pub loop-byte-init : goal.loop-byte-init
loop-byte-init c = wrong-none base c.args.bytes.now

pub loop-byte-preserved : goal.loop-byte-preserved
loop-byte-preserved c =
    wrong-more base c.args.bytes.now c.loop-byte.byte-index _ _ c.loop-byte-test.true c.loop-byte.invariant
    c.is_other-wrong.ensures

pub returns : goal.returns
returns c = wrong-all base _ _ _ c.loop-byte-test.false c.loop-byte.invariant
