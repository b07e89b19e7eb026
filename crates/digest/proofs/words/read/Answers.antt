use Rattle.std.proofs.Common.{◌∙◌, length-set, arith}
use Rattle.digest.proofs.Runs.{words-more, words-all}
use Rattle.digest.proofs.words.read.Goals as goal

pub loop-i-preserved : goal.loop-i-preserved
loop-i-preserved c =
    let l = c.loop-i in
    (length-set l.m l.i c.word_at.result ∙ l.invariant.0, words-more c.args.s.now l.m l.i (omega arith) l.invariant.1 c.word_at.ensures)

pub returns : goal.returns
returns c = words-all c.args.s.now c.loop-i.m c.loop-i.i (omega arith) (omega arith) c.loop-i.invariant.1
