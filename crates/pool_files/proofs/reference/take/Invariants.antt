-- `pool_files::reference::take` meets its contract. The loop's invariant, `Takes`: the bytes that are left lead to what all of them lead to,
-- and there is room for the bases that are wanted.
use Rattle.std.proofs.Common.{length}
use Rattle.pool_files.specs.Reference.{wanted}
use Rattle.pool_files.proofs.Takes.{Takes}
use Rattle.pool_files.proofs.reference.take.Given as goal

abbrev pub invariant-loop-at : goal.invariant-loop-at
invariant-loop-at l =
    Takes l.name l.initial.now (wanted (length l.initial.bases) l.from.count l.most) l.piece l.from.at l.from.count l.initial.bases l.now l.space.left l.at l.space.n l.bases
