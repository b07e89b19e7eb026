use native.Mathlib.Omega.{arith}
use Rattle.search.proofs.BorderFalls.{falls-none, falls-less, falls-more, falls-found, falls-end}
use Rattle.search.proofs.borders.table.fallback.Goals as goal

pub loop-q-init : goal.loop-q-init
loop-q-init c = falls-none

pub bounds-pattern-q : goal.bounds-pattern-q
bounds-pattern-q c = omega arith

pub returns-then-q-eq0 : goal.returns-then-q-eq0
returns-then-q-eq0 c =
    falls-end c.requires c.loop-q.invariant c.loop-q-test.true c.if-q-eq0.true

pub offset_bounds-table-q : goal.offset_bounds-table-q
offset_bounds-table-q c = omega arith

pub bounds-table-q : goal.bounds-table-q
bounds-table-q c = omega arith

pub loop-q-smaller : goal.loop-q-smaller
loop-q-smaller c =
    falls-less c.requires c.loop-q.invariant c.if-q-eq0.false

pub loop-q-preserved : goal.loop-q-preserved
loop-q-preserved c =
    falls-more c.requires c.loop-q.invariant c.if-q-eq0.false c.loop-q-test.true

pub overflow_add-result : goal.overflow_add-result
overflow_add-result c = omega arith

pub returns : goal.returns
returns c =
    falls-found c.requires c.loop-q.invariant c.loop-q-test.false
