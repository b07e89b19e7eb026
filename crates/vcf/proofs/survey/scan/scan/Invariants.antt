-- `vcf::survey::scan::scan` meets its contract. The loop's invariant, `Scanning`: that many lines are passed, and those left say what the whole
-- file says. The measure is the number of bytes left.
use Prim.Native.Nat.{◌-◌}
use lib.ListN.{length}
use Rattle.text.specs.Letter.{meant}
use Rattle.vcf.proofs.Scanning.{Scanning}
use Rattle.vcf.proofs.survey.scan.scan.Given as goal

abbrev pub invariant-loop-at : goal.invariant-loop-at
invariant-loop-at l =
    Scanning l.name (meant l.window.bases.now) l.window.first l.file l.at l.start l.passed l.reached

abbrev pub decreases-loop-at : goal.decreases-loop-at
decreases-loop-at l = length l.file - l.at
