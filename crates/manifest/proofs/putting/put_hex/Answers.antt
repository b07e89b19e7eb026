use Rattle.lines.proofs.Putting.{put-length}
use Rattle.manifest.proofs.Hex.{spelling-none, spelling-more, spelling-end}
use Rattle.manifest.proofs.putting.put_hex.Goals as goal

pub loop-byte-init : goal.loop-byte-init
loop-byte-init c = spelling-none _ _ _

pub loop-byte-preserved : goal.loop-byte-preserved
loop-byte-preserved c =
    spelling-more c.loop-byte.invariant c.loop-byte-test.true c.glyph.ensures c.glyph-in-loop-byte.ensures c.put_bytes-next.ensures

pub shape_of-out : goal.shape_of-out
shape_of-out c = put-length c.loop-byte.invariant.put

pub returns : goal.returns
returns c = spelling-end c.loop-byte.invariant c.loop-byte-test.false
