-- `digest::words::result` meets its contract: the bytes of one word after another.
use Rattle.std.proofs.Common.{◌≡◌, ◌*◌, length, take}
use Rattle.digest.proofs.Runs.{octets}
use Rattle.digest.proofs.words.result.Given as goal

abbrev pub invariant-loop-i : goal.invariant-loop-i
invariant-loop-i l = (length l.bytes ≡ 32) × (take (l.i * 8) l.bytes ≡ octets l.h l.i)
