-- `desk_night::moving::moved_by` meets its contract: the buffer has room for the marks of any stretch.
use Prim.Native.Nat.{ℕ}
use lib.ListN.{length-replicate}
use Rattle.std.proofs.lemmas.Result.{err_from_is_err_and}
use Rattle.desk_night.proofs.Moves.{moved-first, moved-all}
use Rattle.desk_night.proofs.moving.moved_by.Goals as goal

pub returns-in_err-stopped : goal.returns-in_err-stopped
returns-in_err-stopped c =
    let p = err_from_is_err_and c.from_residual.result c.from_residual.ensures.1 in
    rw (p.1, p.2) (moved-first _ _ _ c.if-first.true c.pass_first.ensures c.in_err-stopped.was)

pub returns-then-first : goal.returns-then-first
returns-then-first c = moved-first _ _ _ c.if-first.true c.pass_first.ensures c.in_ok-stopped.was

pub returns-in_err-passed : goal.returns-in_err-passed
returns-in_err-passed c =
    let p = err_from_is_err_and c.from_residual-in_err-passed.result c.from_residual-in_err-passed.ensures.1 in
    rw (p.1, p.2)
    (moved-all _ _ _ c.if-first.false (length-replicate {A = ℕ} 10922 0) c.pass.ensures.result_value c.in_err-passed.was)

pub returns : goal.returns
returns c = moved-all _ _ _ c.if-first.false (length-replicate {A = ℕ} 10922 0) c.pass.ensures.result_value c.in_ok-passed.was
