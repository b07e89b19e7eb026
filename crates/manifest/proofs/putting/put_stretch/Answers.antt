-- `manifest::putting::put_stretch` meets its contract: the digest, two blanks, the name and the line's end, one after another.
use Rattle.manifest.proofs.Hex.{stretch-put}
use Rattle.manifest.proofs.putting.put_stretch.Goals as goal

pub returns : goal.returns
returns c =
    stretch-put _ _ c.digest.ensures c.put_digest-blanks.ensures c.put_bytes-from.ensures c.put_bytes-end.ensures
    c.put_bytes.ensures
