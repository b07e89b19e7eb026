-- `lines::numbered::put_numbered` meets its contract: the name, then a point and five digits after it.
use Rattle.lines.proofs.FileNames.{put-numbered}
use Rattle.lines.proofs.numbered.put_numbered.Goals as goal

pub returns : goal.returns
returns c =
    put-numbered _ c.last_digit.ensures c.last_digit-2.ensures
    c.last_digit-3.ensures c.last_digit-4.ensures c.last_digit-5.ensures c.put_bytes-from.ensures
    c.put_bytes.ensures
