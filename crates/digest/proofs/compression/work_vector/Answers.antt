-- `digest::compression::work_vector` meets its contract: the offset in two words.
use Rattle.std.proofs.Common.{sym, ap, ◌∙◌}
use Rattle.digest.specs.Compression.{flagged}
use Rattle.digest.proofs.Offsets.{vector-of}
use Rattle.digest.proofs.compression.work_vector.Goals as goal
use Rattle.digest.proofs.compression.work_vector.Goals.{then-f, else-f}

pub returns : goal.returns
unfolding flagged
returns c =
    vector-of c.args.h.now c.args.t c.if-f.result c.args.f c.ranges.t.fits
    (elim c.if-f.branch [
      | then-f w ↦ w.result-is ∙ ap flagged (sym w.if-f.true)
      | else-f w ↦ w.result-is ∙ ap flagged (sym w.if-f.false)
    ])
