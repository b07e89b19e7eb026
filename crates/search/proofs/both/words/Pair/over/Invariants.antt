-- `search::both::words::Pair::over` meets its contract. The loop's invariant, `Sweeping` on each strand: the cursor stands after the
-- variants that were read, and the words are theirs. The measure is the number of variants left.
use Rattle.text.specs.Strand.{opposite}
use Rattle.search.proofs.Words.{Sweeping}
use Rattle.search.proofs.both.words.Pair.over.Given as goal

abbrev pub invariant-loop-cursor : goal.invariant-loop-cursor
invariant-loop-cursor l =
    Sweeping l.pattern l.self.given l.stretch l.at l.cursor l.words.given l.missed.given
    × Sweeping (opposite l.pattern) l.self.opposite l.stretch l.at l.cursor l.words.opposite l.missed.opposite

abbrev pub decreases-loop-cursor : goal.decreases-loop-cursor
decreases-loop-cursor l =
    l.cursor.left
