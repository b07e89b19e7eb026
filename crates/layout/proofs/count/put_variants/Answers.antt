-- `layout::count::put_variants` meets its contract: a number set is one written over the buffer, where it has room.
use Rattle.std.proofs.Common.{◌+◌, ◌<◌, ◌≤◌, length, sym, ◌∙◌, arith}
use borrow.Author.Tests.{lt-leb}
use Rattle.layout.specs.Sizes.{count_bytes}
use Rattle.layout.proofs.Overs.{over-set, put-over, put-short}
use Rattle.layout.proofs.count.put_variants.Goals as goal

pub returns-then-out-at : goal.returns-then-out-at
unfolding count_bytes
returns-then-out-at c =
    let full : length c.args.out.now < c.args.at + 1 = omega arith in
    put-short c.args.out.now c.args.at (count_bytes c.args.variants) (lt-leb (c.args.at + 1) (length c.args.out.now) full)

pub returns : goal.returns
unfolding count_bytes
returns c =
    let room : c.args.at + 1 ≤ length c.args.out.now = omega arith in
    over-set c.args.out.now c.args.at _ c.if-out-at.false ∙ sym (put-over c.args.out.now c.args.at (count_bytes c.args.variants) room)
