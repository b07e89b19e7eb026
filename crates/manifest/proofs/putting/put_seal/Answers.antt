-- `manifest::putting::put_seal` meets its contract: the word, the digits and the line's end, one after another.
use Rattle.lines.proofs.Putting.{put-more}
use Rattle.manifest.specs.Written.{digest_line}
use Rattle.manifest.proofs.putting.put_seal.Goals as goal

pub returns : goal.returns
unfolding digest_line
returns c =
    put-more (put-more c.put_bytes-from.ensures c.put_digest-end.ensures) c.put_bytes.ensures
