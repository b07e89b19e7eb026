-- `lines::put::put_number` meets its contract: the digits are those that std writes of the number.
use Rattle.std.proofs.Common.{◌∙◌}
use Rattle.lines.proofs.Digits.{decimal-digits}
use Rattle.lines.proofs.put.put_number.Goals as goal

pub returns : goal.returns
returns c =
    let same = c.as_bytes.ensures.value ∙ c.format.ensures.text ∙ decimal-digits c.args.number c.ranges.number.fits in
    rw same at c.put_bytes.ensures
