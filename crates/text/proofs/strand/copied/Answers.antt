-- `text::strand::copied` meets its contract: std's copy, over the front of the zeros.
use Rattle.std.proofs.Common.{ap, ◌∙◌, List, ℕ, ◌++◌, drop, length, replicate}
use Rattle.text.proofs.Padding.{padding-over}
use Rattle.text.proofs.strand.copied.Goals as goal

pub returns : goal.returns
returns c = ap (λ (x : List ℕ). x ++ drop (length c.args.part.now) (replicate 64 0)) c.copy_from_slice.ensures.after ∙ padding-over c.args.part.now
