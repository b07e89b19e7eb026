-- `vcf::records::window::Window::is_placed` meets its contract.
use mathlib.Core.Path.{sym}
use Rattle.vcf.proofs.Windows.{placed-zero, placed-empty, placed-far, placed-near}
use Rattle.vcf.proofs.records.window.Window.is_placed.Goals as goal

pub returns-then-first-eq0 : goal.returns-then-first-eq0
returns-then-first-eq0 c = sym (placed-zero _ _ c.if-first-eq0.true)

pub returns-then-bases-eq0 : goal.returns-then-bases-eq0
returns-then-bases-eq0 c = sym (placed-empty _ _ c.if-first-eq0.false c.if-bases-eq0.true)

pub returns-then-first-gt2147483648 : goal.returns-then-first-gt2147483648
returns-then-first-gt2147483648 c = sym (placed-far _ _ c.if-first-eq0.false c.if-bases-eq0.false c.if-first-gt2147483648.true)

pub returns : goal.returns
returns c = placed-near _ _ c.if-first-eq0.false c.if-bases-eq0.false c.if-first-gt2147483648.false
