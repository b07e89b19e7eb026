-- `vcf::put::put_text` meets its contract. The loop's invariant, `Putting`: the lines left add the rest of the text. The measure is
-- the number of bytes left.
use Prim.Native.Nat.{◌-◌}
use lib.ListN.{length}
use Rattle.text.specs.Letter.{meant}
use Rattle.vcf.proofs.Lines.{Putting}
use Rattle.vcf.proofs.put.put_text.Given as goal

abbrev pub invariant-loop-put : goal.invariant-loop-put
invariant-loop-put l =
    Putting (meant l.window.bases.now) l.window.first l.file l.initial.out l.out l.put.base l.put.at l.put.left l.at

abbrev pub decreases-loop-put : goal.decreases-loop-put
decreases-loop-put l = length l.file - l.at
