-- `layout::cursor::Cursor::compared` meets its contract, from what `repeated_at` tells.
use Rattle.std.proofs.Common.{sym, ◌∙◌}
use Rattle.layout.proofs.Walking.{compared-again, compared-new}
use Rattle.layout.proofs.cursor.Cursor.compared.Goals as goal

pub returns-then-repeated_at : goal.returns-then-repeated_at
returns-then-repeated_at c = sym (compared-again _ _ (sym c.repeated_at.ensures ∙ c.if-repeated_at.true) c.again.ensures)

pub returns : goal.returns
returns c = sym (compared-new _ _ (sym c.repeated_at.ensures ∙ c.if-repeated_at.false))
