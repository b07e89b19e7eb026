-- `desk_list::decimal::told` meets its contract. The loop's invariant, `Telling`: the digits so far tell n.
use Rattle.desk_list.proofs.Values.{Telling}
use Rattle.desk_list.proofs.decimal.told.Given as goal

abbrev pub invariant-loop-digit : goal.invariant-loop-digit
invariant-loop-digit l = Telling l.digits l.n l.digit-index
