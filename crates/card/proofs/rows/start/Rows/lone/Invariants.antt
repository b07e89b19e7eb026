-- `card::rows::Rows::lone` meets its contract. The loop's invariant, `Loning`: the rows below q have their bit.
use Rattle.card.proofs.Lones.{Loning}
use Rattle.card.proofs.rows.start.Rows.lone.Given as goal

abbrev pub invariant-loop-q : goal.invariant-loop-q
invariant-loop-q l = Loning l.m l.exits l.q
