-- `search::borders::table::border_table` meets its contract. The loop's invariant, `Building`: the entries up to i stand, and k is the
-- last of them, from which a fallback finds the next.
use Rattle.search.proofs.BorderTables.{Building}
use Rattle.search.proofs.borders.table.border_table.Given as goal

abbrev pub invariant-loop-i : goal.invariant-loop-i
invariant-loop-i l = Building l.pattern l.table l.k l.i
