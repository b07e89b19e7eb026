-- `layout::variant::put_variant` meets its contract. The loop's invariant, `Copied`: the first i letters stand after the
-- length. The measure is the number of letters left.
use Rattle.text.specs.Letter.{meant}
use Rattle.layout.proofs.Overs.{Copied}
use Rattle.layout.proofs.variant.put_variant.Given as goal

abbrev pub invariant-loop-i : goal.invariant-loop-i
invariant-loop-i l = Copied l.initial.out l.start (meant l.variant) l.out l.i
