use native.Mathlib.Omega.{arith}
use mathlib.Core.Path.{sym}
use Rattle.text.proofs.Letters.{passed_none, passed-more, passed-stop, passed-all}
use Rattle.vcf.proofs.Marks.{is-mark, is-other}
use Rattle.vcf.proofs.records.pieces.find.Goals as goal

pub loop-i-init : goal.loop-i-init
loop-i-init c = passed_none _ _

pub returns-then-byte-mark : goal.returns-then-byte-mark
returns-then-byte-mark c =
    sym (passed-stop _ _ _ c.loop-i.invariant c.loop-i-test.true (is-mark _ _ c.if-byte-mark.true))

pub loop-i-preserved : goal.loop-i-preserved
loop-i-preserved c =
    passed-more _ _ _ c.loop-i.invariant c.loop-i-test.true (is-other _ _ c.if-byte-mark.false)

pub returns : goal.returns
returns c =
    let h = passed-all _ _ _ c.loop-i.invariant c.loop-i-test.false in omega (arith, h, c.loop-i.auto.i-end)
