use native.Mathlib.Omega.{arith}
use Rattle.search.proofs.BorderChains.{chain-none, chain-less, chain_more, chain-all}
use Rattle.search.proofs.borders.begun.begun.Goals as goal

pub overflow_shl-bits : goal.overflow_shl-bits
overflow_shl-bits c = omega arith

pub loop-k-init : goal.loop-k-init
loop-k-init c = chain-none c.requires.sound_pattern c.looked_through-scanned.ensures

pub offset_bounds-table-k : goal.offset_bounds-table-k
offset_bounds-table-k c = omega arith

pub bounds-table-k : goal.bounds-table-k
bounds-table-k c = omega arith

pub loop-k-smaller : goal.loop-k-smaller
loop-k-smaller c =
    omega (arith, chain-less c.requires.borders c.loop-k.invariant c.loop-k-test.true)

pub overflow_shl-bits-in-loop-k : goal.overflow_shl-bits-in-loop-k
overflow_shl-bits-in-loop-k c = omega (arith, chain-less c.requires.borders c.loop-k.invariant c.loop-k-test.true)

pub loop-k-preserved : goal.loop-k-preserved
loop-k-preserved c =
    chain_more c.requires.borders c.loop-k.invariant c.loop-k-test.true c.requires.sound_pattern

pub returns : goal.returns
returns c = chain-all c.looked_through-scanned.ensures c.loop-k.invariant c.loop-k-test.false
