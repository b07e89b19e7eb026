use Rattle.std.proofs.Common.{ap, ◌∙◌}
use Rattle.eds_notation.specs.Places.{behind}
use Rattle.eds_notation.proofs.Lines.{behind-none, behind_more, behind-all, take-min}
use Rattle.eds_notation.proofs.place.Place.behind.Goals as goal

pub loop-byte-init : goal.loop-byte-init
loop-byte-init c = behind-none _ _

pub loop-byte-preserved : goal.loop-byte-preserved
loop-byte-preserved c = behind_more c.loop-byte.invariant c.loop-byte-test.true c.over-place.ensures

pub returns : goal.returns
returns c =
    behind-all c.loop-byte.invariant c.loop-byte-test.false ∙ ap (behind c.args.self) (take-min c.args.n _ c.args.bytes.now c.min.ensures)
