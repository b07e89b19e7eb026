-- `eds_notation::cutting::cut` meets its contract.
use native.Mathlib.Omega.{arith}
use mathlib.Core.Path.{◌≡◌, sym, ◌∙◌}
use mathlib.Core.Bool.{true}
use lib.ListN.{length}
use Rattle.eds_notation.specs.Cutting.{within}
use Rattle.eds_notation.proofs.Cuts.{Within, within-is, moved-front, cut-not, cut-done}
use Rattle.eds_notation.proofs.cutting.cut.Goals as goal
use Rattle.eds_notation.proofs.cutting.cut.Goals.{Else-not-is_within}

-- the tape lies within its buffers
lies :
    (c : Else-not-is_within) →
    within c.args.tape (length c.args.letters.now) (length c.args.lengths.now) ≡ true
lies c = sym c.is_within.ensures ∙ c.if-not-is_within.false

inside :
    (c : Else-not-is_within) →
    Within c.args.tape (length c.args.letters.now) (length c.args.lengths.now)
inside c = within-is _ _ _ (lies c)

pub returns-then-not-is_within : goal.returns-then-not-is_within
returns-then-not-is_within c = cut-not _ _ _ (sym c.is_within.ensures ∙ c.if-not-is_within.true)

pub overflow_sub-letters_end : goal.overflow_sub-letters_end
overflow_sub-letters_end c = (inside (goal.at.overflow_sub-letters_end c).Else-not-is_within).letters-open

pub copy_within-requires-clause-in_bounds : goal.copy_within-requires-clause-in_bounds
copy_within-requires-clause-in_bounds c = (inside (goal.at.copy_within-requires-clause-in_bounds c).Else-not-is_within).letters-in

pub copy_within-requires-clause-dest_in_bounds : goal.copy_within-requires-clause-dest_in_bounds
copy_within-requires-clause-dest_in_bounds c =
    let w = inside (goal.at.copy_within-requires-clause-dest_in_bounds c).Else-not-is_within in
    omega (arith, w.letters-open, w.letters-in)

pub overflow_sub-lengths_end : goal.overflow_sub-lengths_end
overflow_sub-lengths_end c = (inside (goal.at.overflow_sub-lengths_end c).Else-not-is_within).lengths-open

pub copy_within-requires-2-clause-in_bounds : goal.copy_within-requires-2-clause-in_bounds
copy_within-requires-2-clause-in_bounds c = (inside (goal.at.copy_within-requires-2-clause-in_bounds c).Else-not-is_within).lengths-in

pub copy_within-requires-2-clause-dest_in_bounds : goal.copy_within-requires-2-clause-dest_in_bounds
copy_within-requires-2-clause-dest_in_bounds c =
    let w = inside (goal.at.copy_within-requires-2-clause-dest_in_bounds c).Else-not-is_within in
    omega (arith, w.lengths-open, w.lengths-in)

pub returns : goal.returns
returns c =
    let w = inside (goal.at.returns c).Else-not-is_within in
    cut-done _ _ _ (lies (goal.at.returns c).Else-not-is_within) _ _
    (c.copy_within.ensures.after ∙ moved-front _ _ _ w.letters-open w.letters-in)
    (c.copy_within-2.ensures.after ∙ moved-front _ _ _ w.lengths-open w.lengths-in)
