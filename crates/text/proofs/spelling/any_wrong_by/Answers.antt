use native.Mathlib.Omega.{arith}
use mathlib.Core.Path.{refl}
use Rattle.text.proofs.Blocks.{clean-none, clean-more, clean_all, blocks-by}
use Rattle.text.proofs.spelling.any_wrong_by.Goals as goal

pub returns-then-part-ge-BLOCK : goal.returns-then-part-ge-BLOCK
returns-then-part-ge-BLOCK c = blocks-by _ _ _ c.if-part-ge-BLOCK.true c.wrong_in_blocks.ensures

pub loop-byte-init : goal.loop-byte-init
loop-byte-init c = clean-none c.args.classes.now c.args.part.now

pub loop-byte-preserved : goal.loop-byte-preserved
loop-byte-preserved c =
    clean-more c.args.classes.now c.args.part.now _ c.loop-byte.bad c.loop-byte.invariant c.loop-byte-test.true _ refl
    (omega (arith, c.type_inv.part c.loop-byte.byte-index))

pub returns : goal.returns
returns c =
    clean_all c.args.classes.now c.args.part.now _ c.loop-byte.bad c.loop-byte.invariant c.loop-byte-test.false
    c.if-part-ge-BLOCK.false
