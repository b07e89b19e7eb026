-- `stretch::reading::letters` meets its contract: the part is the one that goes with what `read` answers.
use Prim.Native.Nat.{◌+◌, ◌≤◌}
use native.Mathlib.Omega.{arith}
use mathlib.Core.Path.{sym, ap, ◌∙◌}
use lib.ListN.{length}
use Rattle.stretch.specs.Answers.{told_got}
use Rattle.stretch.proofs.ReadsAtPlace.{found_inside, part-told, part-found}
use Rattle.stretch.proofs.reading.letters.Goals as goal
use Rattle.stretch.proofs.reading.letters.Goals.{In-Variant}

fits : (c : In-Variant) →
    c.in-Variant.start + c.in-Variant.len ≤ length c.args.stretch.now
fits c = found_inside _ _ _ _ _ _ _ (sym (ap told_got c.in-Variant.is) ∙ c.read.ensures)

pub overflow_add-result : goal.overflow_add-result
overflow_add-result c = omega (arith, fits (goal.at.overflow_add-result c).In-Variant)

pub slice_bounds-result-end : goal.slice_bounds-result-end
slice_bounds-result-end c = fits (goal.at.slice_bounds-result-end c).In-Variant

pub returns-in-Variant : goal.returns-in-Variant
returns-in-Variant c =
    part-found _ _ _ _ _ _ _ (sym (ap told_got c.in-Variant.is) ∙ c.read.ensures)

pub returns-in-End : goal.returns-in-End
returns-in-End c = part-told _ _ _ _ (sym (ap told_got c.in-End.is) ∙ c.read.ensures)

pub returns-in-Refused : goal.returns-in-Refused
returns-in-Refused c = part-told _ _ _ _ (sym (ap told_got c.in-Refused.is) ∙ c.read.ensures)
