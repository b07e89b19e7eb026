use Prim.Native.Nat.{◌+◌, ◌-◌}
use native.Mathlib.Omega.{arith}
use mathlib.Core.Path.{◌≡◌}
use lib.ListN.{drop}
use Rattle.text.specs.Letter.{letter}
use Rattle.text.proofs.Blocks.{wrong-none, wrong-more, wrong-all}
use Rattle.text.proofs.spelling.wrong_in_block.Goals as goal

pub loop-byte-init : goal.loop-byte-init
loop-byte-init c = wrong-none letter (drop c.args.at c.args.part.now)

pub loop-byte-preserved : goal.loop-byte-preserved
loop-byte-preserved c =
    wrong-more letter _ c.loop-byte.byte-index _ _ c.loop-byte-test.true c.loop-byte.invariant c.is_wrong-wrong.ensures

pub returns : goal.returns
returns c =
    let sixteen : c.args.at + 16 - c.args.at ≡ 16 = omega arith in
    rw sixteen at (wrong-all letter _ _ _ c.loop-byte-test.false c.loop-byte.invariant)
