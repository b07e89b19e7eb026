-- `digest::compression::round` meets its contract: eight times G.
use Rattle.digest.proofs.Round.{round-of}
use Rattle.digest.proofs.compression.round.Goals as goal

pub returns : goal.returns
returns c =
    round-of c.args.m.now c.args.s.now c.args.v.now c.told-s
    c.g.ensures c.g-2.ensures c.g-3.ensures c.g-4.ensures c.g-5.ensures c.g-6.ensures c.g-7.ensures c.g-8.ensures
