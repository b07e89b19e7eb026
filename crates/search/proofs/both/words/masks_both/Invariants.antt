-- `search::both::words::masks_both` meets its contract. The loop's invariant, `Laid`: the vectors of the first c bytes stand side by side.
use Rattle.search.proofs.Pairs.{Laid}
use Rattle.search.proofs.both.words.masks_both.Given as goal

abbrev pub invariant-loop-c : goal.invariant-loop-c
invariant-loop-c l = Laid l.evens l.odds l.table l.c
