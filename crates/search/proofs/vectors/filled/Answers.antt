use Prim.Native.Nat.{◌<◌}
use Rattle.std.proofs.Common.{◌∙◌, arith}
use lib.ListN.{length}
use Rattle.search.specs.Masks.{bases}
use Rattle.search.proofs.Copies.{copied_all}
use Rattle.search.proofs.BitScans.{filling-none, filling-more, filling-all, bases-length, bases-near, bases-inside}
use Rattle.search.proofs.BitScans.{bases-at}
use Rattle.search.proofs.vectors.filled.Goals as goal
use Rattle.search.proofs.vectors.filled.Goals.{In-loop-k}

-- the base that is entered
near : (c : In-loop-k) → c.loop-k.k < length (bases c.args.pattern.now)
near c = rw (← c.loop-k.invariant.0) c.loop-k-test.true

pub loop-k-init : goal.loop-k-init
loop-k-init c = (c.min-m.ensures ∙ bases-length _, filling-none _ _)

pub bounds-pattern-k : goal.bounds-pattern-k
bounds-pattern-k c = bases-inside _ _ (near (goal.at.bounds-pattern-k c).In-loop-k)

pub overflow_shl-table : goal.overflow_shl-table
overflow_shl-table c = bases-near c.args.pattern.now _ (near (goal.at.overflow_shl-table c).In-loop-k)

pub loop-k-preserved : goal.loop-k-preserved
loop-k-preserved c =
    let P = c.args.pattern.now in
    let l = near (goal.at.loop-k-preserved c).In-loop-k in
    (c.loop-k.invariant.0, filling-more _ _ _ _ _ c.loop-k.invariant.1 l (bases-near P _ l) (bases-at P _ l) (omega (arith, c.type_inv.pattern c.loop-k.k)))

pub returns : goal.returns
returns c = copied_all _ _ _ (filling-all _ _ _ _ c.loop-k.invariant.1 (omega arith))
