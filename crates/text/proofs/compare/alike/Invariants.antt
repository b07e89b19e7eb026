-- `text::compare::alike` meets its contract. The loop's invariant, `Alike`: the letters before i mean the same, and what is left to compare
-- is what stands from i on. The measure is the number of letters left.
use Rattle.text.proofs.Strings.{Alike}
use Rattle.text.specs.Letter.{meant}
use Rattle.text.proofs.compare.alike.Given as goal

abbrev pub invariant-loop-k : goal.invariant-loop-k
invariant-loop-k l = Alike (meant l.a) (meant l.b) l.k
