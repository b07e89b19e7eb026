use native.Mathlib.Omega.{arith}
use mathlib.Core.Path.{sym, ◌∙◌}
use Rattle.desk_night.specs.Sweep.{swept}
use Rattle.desk_night.proofs.Sweeps.{sweeping-none, sweeping-full, sweeping-past, sweeping-more, sweeping-end}
use Rattle.desk_night.proofs.sweeping.sweep.Goals as goal

pub loop-line-init : goal.loop-line-init
loop-line-init c = (sweeping-none _, omega arith)

pub returns-then-k-eq-MOST : goal.returns-then-k-eq-MOST
unfolding swept
returns-then-k-eq-MOST c =
    let (p, l) = c.loop-line.invariant in
    sweeping-full (sweeping-more p c.line_at.ensures.value c.in-Some.is (sym c.unwrap_or.ensures ∙ c.in-Some-unwrap_or.is) l
    c.part-pattern.ensures c.turn-sweep.ensures) (omega (arith, c.if-k-eq-MOST.true))

pub returns : goal.returns
unfolding swept
returns c = sweeping-end c.loop-line.invariant.0 c.line_at.ensures.value c.in_default.is

pub loop-line-preserved-in_default-unwrap_or : goal.loop-line-preserved-in_default-unwrap_or
loop-line-preserved-in_default-unwrap_or c = (
  sweeping-past c.loop-line.invariant.0 c.line_at.ensures.value c.in-Some.is (sym c.unwrap_or.ensures ∙ c.in_default-unwrap_or.is),
  c.loop-line.invariant.1,
)

pub loop-line-preserved : goal.loop-line-preserved
loop-line-preserved c =
    let (p, l) = c.loop-line.invariant in (
      sweeping-more p c.line_at.ensures.value c.in-Some.is (sym c.unwrap_or.ensures ∙ c.in-Some-unwrap_or.is) l
          c.part-pattern.ensures c.turn-sweep.ensures,
      omega (arith, l, c.if-k-eq-MOST.false),
    )
