-- `search::borders::begun::scan` meets its contract. The loop's invariant, `Scanning`: what a scan tells is true of the first i
-- letters; a fallback takes in the next one.
use Rattle.text.specs.Letter.{meant}
use Rattle.search.proofs.BorderScans.{Scanning}
use Rattle.search.proofs.borders.begun.scan.Given as goal

abbrev pub invariant-loop-letter : goal.invariant-loop-letter
invariant-loop-letter l = Scanning l.pattern (meant l.variant) l.longest l.whole l.letter-index
