use native.Mathlib.Omega.{arith}
use Rattle.search.proofs.BorderWalks.{walk_none, walk-near, walk-carried, walk-passed, walk-all}
use Rattle.search.proofs.borders.carried.carried.Goals as goal
use Rattle.search.proofs.borders.carried.carried.Goals.{then-rest-eq1, else-rest-eq1}

pub loop-rest-init : goal.loop-rest-init
loop-rest-init c = walk_none

pub carried_one-one-requires : goal.carried_one-one-requires
carried_one-one-requires c =
    record { sound_pattern = c.requires.sound_pattern; q_in_bounds = walk-near c.loop-rest.invariant c.requires.state_bound c.loop-rest-test.true }

pub overflow_add-q : goal.overflow_add-q
overflow_add-q c =
    omega (arith, c.requires.sound_pattern.short, walk-near c.loop-rest.invariant c.requires.state_bound c.loop-rest-test.true)

pub loop-rest-smaller : goal.loop-rest-smaller
loop-rest-smaller c = omega arith

pub loop-rest-preserved : goal.loop-rest-preserved
loop-rest-preserved c =
    let walk = c.loop-rest.invariant in
    elim c.if-rest-eq1.branch [
      | then-rest-eq1 w ↦ walk-carried walk w.if-rest-eq1.true w.carried_one-one.ensures w.bits-is w.ends-is
      | else-rest-eq1 w ↦ walk-passed walk w.if-rest-eq1.false w.bits-is w.ends-is
    ]

pub returns : goal.returns
returns c =
    walk-all c.loop-rest.invariant c.requires.state_bound c.loop-rest-test.false
