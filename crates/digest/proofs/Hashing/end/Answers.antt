-- `digest::Hashing::end` meets its contract: the block is the last one, and F reads the offset modulo 2 ^ 128.
use Rattle.std.proofs.Common.{◌+◌, true, refl, ap, ◌∙◌}
use Rattle.digest.specs.Words.{first32}
use Rattle.digest.specs.Updating.{end_of}
use Rattle.digest.proofs.Offsets.{F-offset}
use Rattle.digest.proofs.Hashing.end.Goals as goal

pub returns : goal.returns
unfolding end_of
returns c =
    let x = c.args.self in
    c.result.ensures ∙ ap first32 (F-offset x.h (x.t + x.c) true c.compress.ensures c.read.ensures refl)
