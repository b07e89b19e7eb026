-- `vcf::records::window::Window::agrees` meets its contract.
use mathlib.Core.Path.{sym}
use Rattle.vcf.proofs.Windows.{agrees-before, agrees-behind, agrees-over, agrees-is}
use Rattle.vcf.proofs.records.window.Window.agrees.Goals as goal

pub returns-then-position-first : goal.returns-then-position-first
returns-then-position-first c = sym (agrees-before c.args.self.bases.now _ _ c.args.reference.now c.if-position-first.true)

pub returns-then-window-start : goal.returns-then-window-start
returns-then-window-start c = sym
    (agrees-behind c.args.self.bases.now _ _ c.args.reference.now c.if-position-first.false c.if-window-start.true)

pub returns-then-window-start-2 : goal.returns-then-window-start-2
returns-then-window-start-2 c =
    sym (agrees-over c.args.self.bases.now _ _ c.args.reference.now c.if-position-first.false c.if-window-start.false c.if-window-start-2.true)

pub returns : goal.returns
returns c =
    agrees-is c.args.self.bases.now _ _ c.args.reference.now c.if-position-first.false c.if-window-start.false c.if-window-start-2.false _
    c.alike.ensures
