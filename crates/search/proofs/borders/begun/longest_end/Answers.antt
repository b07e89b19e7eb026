use native.Mathlib.Omega.{arith}
use lib.ListN.{length-take}
use Rattle.search.proofs.BorderEnds.{ending-none, ending-some, ending-more, ending-all}
use Rattle.search.proofs.borders.begun.longest_end.Goals as goal
use Rattle.search.proofs.borders.begun.longest_end.Goals.{In-loop-k}

pub loop-k-init : goal.loop-k-init
loop-k-init c = ending-none c.args.variant.now c.requires.variant_in_bounds

pub slice_bounds-alike_suffix-end : goal.slice_bounds-alike_suffix-end
slice_bounds-alike_suffix-end c =
    simp length-take (omega (arith, c.loop-k.invariant.near))

pub overflow_sub-k : goal.overflow_sub-k
overflow_sub-k c =
    ending-some c.requires.sound_pattern c.loop-k.invariant c.alike_suffix.ensures c.loop-k-test.true-raw

pub loop-k-smaller : goal.loop-k-smaller
loop-k-smaller c = omega (arith, overflow_sub-k (goal.at.loop-k-smaller c).In-loop-k)

pub loop-k-preserved : goal.loop-k-preserved
loop-k-preserved c =
    ending-more c.requires.sound_pattern c.loop-k.invariant c.alike_suffix.ensures c.loop-k-test.true-raw

pub returns : goal.returns
returns c =
    ending-all c.requires.sound_pattern c.loop-k.invariant c.alike_suffix.ensures c.loop-k-test.false-raw
