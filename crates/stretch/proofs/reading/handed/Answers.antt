-- `stretch::reading::handed` meets its contract. Stepping over variants only grows, so every place lies in the bytes.
use Prim.Native.Nat.{◌+◌, ◌≤◌}
use native.Mathlib.Omega.{arith}
use mathlib.Core.Path.{◌≡◌, ◌∙◌}
use lib.ListN.{length}
use Rattle.layout.specs.Bytes.{word}
use Rattle.layout.proofs.Stands.{word-there}
use Rattle.layout.proofs.Skips.{variants-grow}
use Rattle.stretch.proofs.reading.handed.Goals as goal
use Rattle.stretch.proofs.reading.handed.Goals.{After-word_at}

-- the variant's length is there
word-is : (c : After-word_at) →
    c.word_at.result ≡ word c.args.stretch.now c.behind_variants-place.result
word-is c =
    let l = c.requires.0 in
    let there : c.behind_variants-place.result + 2 ≤ length c.args.stretch.now =
    omega (arith, l, c.behind_variants-place.ensures) in
    c.word_at.ensures.0 ∙ word-there _ _ there

pub overflow_add-at : goal.overflow_add-at
overflow_add-at c =
    omega (arith, variants-grow c.args.stretch.now c.args.variant (c.args.at + 1))

pub returns : goal.returns
returns c = rw (word-is (goal.at.returns c).After-word_at, c.behind_variants-place.ensures)
