use Rattle.std.proofs.Common.{ap}
use Rattle.pool_files.specs.Short.{Outcome}
use Rattle.pool_files.proofs.Shorts.{reads_none, reads_all, reads-feed, reads_more}
use Rattle.pool_files.proofs.short.read_line.Goals as goal

pub loop-at-init : goal.loop-at-init
loop-at-init c = reads_none _ _ _ _ _

pub shape_of-short-then-byte-eq10 : goal.shape_of-short-then-byte-eq10
shape_of-short-then-byte-eq10 c = c.loop-at.invariant.size

pub returns-then-byte-eq10 : goal.returns-then-byte-eq10
returns-then-byte-eq10 c =
    let e = reads-feed c.loop-at.invariant c.loop-at-test.true c.if-byte-eq10.true in
    record { answer = ap (λ (o : Outcome). o.come) e; buffer = ap (λ (o : Outcome). o.left) e }

pub loop-at-preserved : goal.loop-at-preserved
loop-at-preserved c =
    reads_more c.loop-at.invariant c.loop-at-test.true c.if-byte-eq10.false _ _ c.over-now.ensures.value c.over-now.ensures.short_after
    c.over-now.auto.short

pub shape_of-short : goal.shape_of-short
shape_of-short c = c.loop-at.invariant.size

pub returns : goal.returns
returns c =
    let e = reads_all c.loop-at.invariant c.loop-at-test.false in
    record { answer = ap (λ (o : Outcome). o.come) e; buffer = ap (λ (o : Outcome). o.left) e }
