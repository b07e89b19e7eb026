-- `vcf::records::window::Window::is_outside` meets its contract.
use mathlib.Core.Path.{◌≡◌, sym, ◌∙◌}
use lib.ListN.{length}
use Rattle.text.specs.Letter.{meant}
use Rattle.text.proofs.Likes.{meant-length}
use Rattle.vcf.proofs.Windows.{outside-empty, outside-before, outside-early, outside_behind}
use Rattle.vcf.proofs.records.window.Window.is_outside.Goals as goal
use Rattle.vcf.proofs.records.window.Window.is_outside.Goals.{Else-bases-eq0}

-- the window has a base
some : (c : Else-bases-eq0) → length (meant c.args.self.bases.now) ≡ 0 → ⊥
some c e = c.if-bases-eq0.false (sym (meant-length c.args.self.bases.now) ∙ e)

pub returns-then-bases-eq0 : goal.returns-then-bases-eq0
returns-then-bases-eq0 c = let w = c.args.self.bases.now in sym (outside-empty (meant w) _ _ _ (meant-length w ∙ c.if-bases-eq0.true))

pub returns-then-end-first : goal.returns-then-end-first
returns-then-end-first c = sym (outside-before _ _ _ _ (some (goal.at.returns-then-end-first c).Else-bases-eq0) c.if-end-first.true)

pub returns-then-position-first : goal.returns-then-position-first
returns-then-position-first c = sym (outside-early _ _ _ _ (some (goal.at.returns-then-position-first c).Else-bases-eq0) c.if-end-first.false c.if-position-first.true)

pub returns : goal.returns
returns c =
    let w = c.args.self.bases.now in
    rw (← meant-length w) (outside_behind (meant w) _ _ _ (some (goal.at.returns c).Else-bases-eq0) c.if-end-first.false c.if-position-first.false)
