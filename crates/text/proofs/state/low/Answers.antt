-- `text::state::low` meets its contract: 64 ones, or a lone bit m less 1.
use mathlib.Core.Path.{sym}
use native.Mathlib.Omega.{arith}
use lib.Pow.{pow_pos}
use Rattle.text.proofs.States.{low-all, shifted, low-shifted}
use Rattle.text.proofs.state.low.Goals as goal

pub returns-then-m-ge64 : goal.returns-then-m-ge64
returns-then-m-ge64 c = sym (low-all _ c.if-m-ge64.true)

pub overflow_sub-result : goal.overflow_sub-result
overflow_sub-result c = let m = c.args.m in omega (arith, shifted m c.if-m-ge64.false, pow_pos m)

pub returns : goal.returns
returns c = low-shifted _ c.if-m-ge64.false
