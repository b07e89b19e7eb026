-- `search::method::scan_borders` meets its contract: a step by borders, told as words.
use native.Mathlib.Omega.{arith}
use Rattle.search.proofs.Words.{turned-hit, turned-miss, letters-bad, letters-all, letters-good}
use Rattle.search.proofs.method.scan_borders.Goals as goal

pub returns-then-any_wrong : goal.returns-then-any_wrong
returns-then-any_wrong c = letters-bad _ _ c.any_wrong.ensures _ _ _ c.if-any_wrong.true

pub step_borders-stepped-requires : goal.step_borders-stepped-requires
step_borders-stepped-requires c = record { bordered = c.requires; variant_value = letters-all _ _ c.any_wrong.ensures c.if-any_wrong.false }

pub returns-then-stepped : goal.returns-then-stepped
returns-then-stepped c =
    letters-good _ _ c.any_wrong.ensures _ _ _ c.if-any_wrong.false _ _
    (turned-hit _ _ _ _ c.requires.sized.some c.requires.sized.short _ c.step_borders-stepped.ensures c.if-stepped.true)

pub returns : goal.returns
returns c =
    letters-good _ _ c.any_wrong.ensures _ _ _ c.if-any_wrong.false _ _
    (turned-miss _ _ _ _ c.requires.sized.some c.requires.sized.short _ c.step_borders-stepped.ensures (omega arith) c.if-stepped.false)
