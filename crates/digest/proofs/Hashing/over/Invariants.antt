-- `digest::Hashing::over` meets its contract: before each block the hash is over the bytes up to it, with nothing in its block.
use Rattle.std.proofs.Common.{◌≡◌, length}
use Rattle.digest.specs.Updating.{emptied, with_bytes}
use Rattle.digest.proofs.Hashing.over.Given as goal

abbrev pub invariant-loop-rest : goal.invariant-loop-rest
invariant-loop-rest l = (l.self ≡ emptied l.self.h l.self.t) × (with_bytes l.self l.rest ≡ with_bytes l.fn.self l.bytes)

abbrev pub decreases-loop-rest : goal.decreases-loop-rest
decreases-loop-rest l = length l.rest
