-- `layout::cursor::Cursor::enter` meets its contract, from what `variants` tells.
use Rattle.std.proofs.Common.{◌≡◌, Err, sym, arith, rules}
use Rattle.layout.proofs.Frames.{count-met}
use Rattle.layout.proofs.Walking.{enter-not, enter-is}
use Rattle.layout.proofs.cursor.Cursor.enter.Goals as goal

pub overflow_add-first : goal.overflow_add-first
overflow_add-first c = let m = count-met _ _ c.variants.ensures c.in_ok-count.was in omega (arith, m.inside)

pub returns-in_err-count : goal.returns-in_err-count
returns-in_err-count c =
    let same : c.from_residual.result ≡ Err c.in_err-count.field-0.0 = search rules in
    rw same (sym (enter-not _ _ c.variants.ensures c.in_err-count.was))

pub returns : goal.returns
returns c = sym (enter-is _ _ c.variants.ensures c.in_ok-count.was)
