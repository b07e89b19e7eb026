-- `digest::words::read` meets its contract: word by word.
use Rattle.std.proofs.Common.{◌≡◌, length, take}
use Rattle.digest.proofs.Runs.{words}
use Rattle.digest.proofs.words.read.Given as goal

abbrev pub invariant-loop-i : goal.invariant-loop-i
invariant-loop-i l = (length l.m ≡ 16) × (take l.i l.m ≡ words l.s l.i)
