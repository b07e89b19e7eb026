use Prim.Native.Nat.{◌≤◌}
use lib.ListN.{length}
use native.Mathlib.Omega.{arith}
use mathlib.Core.Path.{◌≡◌, ◌∙◌}
use Rattle.layout.specs.Bytes.{word}
use Rattle.layout.specs.Pieces.{next_of}
use Rattle.layout.proofs.Stands.{word-there}
use Rattle.layout.proofs.Skips.{stepping-none, stepping-more, stepping-end, stepping-fits, behind-grows}
use Rattle.stretch.proofs.places.behind_variants.Goals as goal
use Rattle.stretch.proofs.places.behind_variants.Goals.{After-word_at-letters, In-loop}

-- the variant at the loop's place lies in the bytes
fits : (c : In-loop) →
    next_of c.args.stretch.now c.loop.at ≤ length c.args.stretch.now
fits c =
    stepping-fits _ (behind-grows c.args.stretch.now) _ _ _ _ _ c.loop.invariant c.loop-test.true c.requires

-- so its length is there
length-is : (c : After-word_at-letters) →
    c.word_at-letters.result ≡ word c.args.stretch.now c.loop.at
length-is c = let l = fits (goal.at.After-word_at-letters c).In-loop in c.word_at-letters.ensures.0 ∙ word-there _ _ (omega (arith, l))

pub loop-init : goal.loop-init
loop-init c = stepping-none _ _ _

pub overflow_add-at : goal.overflow_add-at
overflow_add-at c = omega (arith, fits (goal.at.overflow_add-at c).In-loop)

pub overflow_add-at-in-loop : goal.overflow_add-at-in-loop
overflow_add-at-in-loop c = omega (arith, fits (goal.at.overflow_add-at-in-loop c).In-loop, length-is (goal.at.overflow_add-at-in-loop c).After-word_at-letters)

pub loop-preserved : goal.loop-preserved
loop-preserved c =
    rw (length-is (goal.at.loop-preserved c).After-word_at-letters) (stepping-more _ _ _ _ _ c.loop.invariant c.loop-test.true)

pub returns : goal.returns
returns c = stepping-end _ _ _ _ _ c.loop.invariant c.loop-test.false
