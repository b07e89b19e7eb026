-- `eds_notation::place::Place::behind` meets its contract. The loop's invariant, `Behind`: the bytes left lead from here to where all of them
-- lead.
use Rattle.eds_notation.proofs.Lines.{Behind}
use Rattle.eds_notation.proofs.place.Place.behind.Given as goal

abbrev pub invariant-loop-byte : goal.invariant-loop-byte
invariant-loop-byte l = Behind l.initial.place l.byte-items l.place l.byte-index
