-- `pool_files::short::read_line` meets its contract. The loop's invariant, `Reads`: the bytes that are left lead to what all of them lead to.
use Rattle.pool_files.proofs.Shorts.{Reads}
use Rattle.pool_files.proofs.short.read_line.Given as goal

abbrev pub invariant-loop-at : goal.invariant-loop-at
invariant-loop-at l = Reads l.name l.initial.now l.piece l.from l.initial.short l.now l.at l.short
