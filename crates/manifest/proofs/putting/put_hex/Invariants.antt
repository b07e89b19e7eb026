-- `manifest::putting::put_hex` meets its contract. The loop's invariant, `Spelling`: the digits of the first i bytes are put.
use Rattle.manifest.proofs.Hex.{Spelling}
use Rattle.manifest.proofs.putting.put_hex.Given as goal

abbrev pub invariant-loop-byte : goal.invariant-loop-byte
invariant-loop-byte l = Spelling l.bytes l.initial.out l.at l.out l.next l.byte-index
