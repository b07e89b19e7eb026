-- `digest::Hashing::fill` meets its contract: where there are bytes, there is room.
use Rattle.std.proofs.Common.{arith}
use Rattle.std.proofs.lemmas.Bool.Decides.{nat_tests}
use Rattle.digest.proofs.Updates.{filled}
use Rattle.digest.proofs.Hashing.fill.Goals as goal

pub returns-then-not-is_empty : goal.returns-then-not-is_empty
returns-then-not-is_empty c =
    filled c.args.self.now c.args.bytes.now _ (grind (arith, nat_tests)) (omega arith) c.copy_from_slice.ensures.after
