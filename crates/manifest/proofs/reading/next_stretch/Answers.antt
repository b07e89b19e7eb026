use mathlib.Core.Path.{refl}
use Rattle.manifest.proofs.Finding.{said-whole, seeking-none, seeking-on, seeking-found, seeking-end}
use Rattle.manifest.proofs.reading.next_stretch.Goals as goal

pub loop-line-init : goal.loop-line-init
loop-line-init c = seeking-none _ _

pub returns-in-Ok-Some : goal.returns-in-Ok-Some
returns-in-Ok-Some c =
    let says = said-whole c.in-Ok-Some.is (rw c.in-Ok-Some.is at c.in-Ok-Some.field-0-is) in
    let found =
    seeking-found c.loop-line.invariant c.line_at.ensures.value c.in-Some.is c.line_at.ensures.onward says refl in
    record { value = found.0; onward = found.1 }

pub loop-line-preserved : goal.loop-line-preserved
loop-line-preserved c =
    let says = said-whole c.in-Ok-None.is (rw c.in-Ok-None.is at c.in-Ok-None.field-0-is) in
    seeking-on c.loop-line.invariant c.line_at.ensures.value c.in-Some.is c.line_at.ensures.onward says

pub returns-in-Err : goal.returns-in-Err
returns-in-Err c =
    let found =
    seeking-found c.loop-line.invariant c.line_at.ensures.value c.in-Some.is c.line_at.ensures.onward c.in-Err.is refl in
    record { value = found.0; onward = found.1 }

pub returns : goal.returns
returns c = record { value = seeking-end c.loop-line.invariant c.line_at.ensures.value c.in_default.is; onward = tt }
