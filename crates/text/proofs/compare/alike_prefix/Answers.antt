-- `text::compare::alike_prefix` meets its contract: p against the first letters of s, as many as p has; a string shorter than p does not
-- begin with it.
use mathlib.Core.Path.{sym, ◌∙◌}
use native.Mathlib.Omega.{arith}
use lib.ListN.{length-take}
use Rattle.text.proofs.Likes.{like-prefix-short, like-prefix}
use Rattle.text.proofs.compare.alike_prefix.Goals as goal

pub returns-then-s-n : goal.returns-then-s-n
returns-then-s-n c = sym (like-prefix-short c.args.p.now c.args.s.now c.if-s-n.true)

pub slice_bounds-alike-end : goal.slice_bounds-alike-end
slice_bounds-alike-end c = simp length-take (omega arith)

pub returns : goal.returns
returns c = c.alike.ensures ∙ like-prefix _ _
