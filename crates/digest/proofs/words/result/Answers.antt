use Rattle.std.proofs.Common.{rules, ◌∙◌, arith}
use Rattle.std.proofs.lemmas.Slice.{overwrites}
use Rattle.digest.proofs.Runs.{octets-more, octets-all}
use Rattle.digest.proofs.words.result.Goals as goal

pub loop-i-preserved : goal.loop-i-preserved
loop-i-preserved c = (
  search (rules, overwrites),
  octets-more c.args.h.now c.loop-i.bytes c.copy_from_slice.new.self c.loop-i.i _ (omega arith) c.loop-i.invariant.1
      (c.copy_from_slice.ensures.after ∙ c.to_le_bytes.ensures),
)

pub returns : goal.returns
returns c = octets-all c.args.h.now c.loop-i.bytes c.loop-i.i (omega arith) (omega arith) c.loop-i.invariant.1
