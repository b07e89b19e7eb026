-- `text::compare::alike_suffix` meets its contract: p against the last letters of s, as many as p has; a string shorter than p does not
-- end with it.
use mathlib.Core.Path.{sym, ◌∙◌}
use Rattle.text.proofs.Likes.{like-suffix-short, like-suffix}
use Rattle.text.proofs.compare.alike_suffix.Goals as goal

pub returns-then-s-p : goal.returns-then-s-p
returns-then-s-p c = sym (like-suffix-short c.args.p.now c.args.s.now c.if-s-p.true)

pub returns : goal.returns
returns c = c.alike.ensures ∙ like-suffix c.args.p.now c.args.s.now
