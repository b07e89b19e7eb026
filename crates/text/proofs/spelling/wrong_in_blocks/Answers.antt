use native.Mathlib.Omega.{arith}
use Rattle.text.specs.Letter.{letter}
use Rattle.text.proofs.Blocks.{blocks-none, blocks_more, blocks-all}
use Rattle.text.proofs.spelling.wrong_in_blocks.Goals as goal

pub wrong_in_block-wrong-requires : goal.wrong_in_block-wrong-requires
wrong_in_block-wrong-requires c = omega (arith, c.requires)

pub loop-at-init : goal.loop-at-init
loop-at-init c = blocks-none letter c.args.part.now 16 _ c.wrong_in_block-wrong.ensures

pub loop-at-preserved : goal.loop-at-preserved
loop-at-preserved c =
    blocks_more letter c.args.part.now 16 c.loop-at.at _ _ c.loop-at.invariant c.wrong_in_block-wrong-in-loop-at.ensures

pub returns : goal.returns
returns c =
    blocks-all letter c.args.part.now 16 _ _ c.requires c.loop-at-test.false c.loop-at.invariant

pub returns-2 : goal.returns-2
returns-2 c =
    let next =
    blocks_more letter c.args.part.now 16 c.loop-at.at _ _ c.loop-at.invariant c.wrong_in_block-wrong-in-loop-at.ensures in
    blocks-all letter c.args.part.now 16 _ _ c.requires (omega arith) next
