use Rattle.desk_list.proofs.Checks.{said-whole, next-line, checking-none, checking-nothing, checking-more, checking-wrong, checking-end}
use Rattle.desk_list.proofs.checking.check.Goals as goal

pub loop-line-init : goal.loop-line-init
loop-line-init c = checking-none _

pub loop-line-preserved-in-Ok-Some : goal.loop-line-preserved-in-Ok-Some
loop-line-preserved-in-Ok-Some c =
    let n = next-line c.in-Some.is c.line_at.ensures.onward in
    let says = said-whole c.in-Ok-Some.is (rw c.in-Ok-Some.is at c.in-Ok-Some.field-0-is) in
    checking-more c.loop-line.invariant c.line_at.ensures.value c.in-Some.is says n

pub loop-line-preserved : goal.loop-line-preserved
loop-line-preserved c =
    let n = next-line c.in-Some.is c.line_at.ensures.onward in
    let says = said-whole c.in-Ok-None.is (rw c.in-Ok-None.is at c.in-Ok-None.field-0-is) in
    checking-nothing c.loop-line.invariant c.line_at.ensures.value c.in-Some.is says n

pub returns-in-Err : goal.returns-in-Err
returns-in-Err c = checking-wrong c.loop-line.invariant c.line_at.ensures.value c.in-Some.is c.in-Err.is

pub returns : goal.returns
returns c = checking-end c.loop-line.invariant c.line_at.ensures.value c.in_default.is c.counted.ensures
