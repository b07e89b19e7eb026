-- `layout::pieces::head` meets its contract: each test compares the end with the place after the letters, or with the least that it
-- can be.
use Rattle.std.proofs.Common.{sym, arith}
use Rattle.layout.proofs.Heads.{head-cut, head-found}
use Rattle.layout.proofs.pieces.head.Goals as goal

pub returns-then-end-at : goal.returns-then-end-at
returns-then-end-at c = sym (head-cut _ _ (omega arith))

pub returns-then-left-lt2 : goal.returns-then-left-lt2
returns-then-left-lt2 c = sym (head-cut _ _ (omega arith))

pub returns-then-left-letters : goal.returns-then-left-letters
returns-then-left-letters c = sym (head-cut _ _ (omega (arith, c.pair-letters.ensures.0)))

pub returns : goal.returns
returns c = sym (head-found _ _ _ c.pair-letters.ensures.0 (omega (arith, c.pair-letters.ensures)))
