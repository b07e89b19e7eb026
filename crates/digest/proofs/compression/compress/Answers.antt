-- `digest::compression::compress` meets its contract: the twelve rounds one after another.
use Rattle.std.proofs.Common.{ℕ, List, ap, ◌∙◌}
use Rattle.digest.specs.Compression.{round, scheduled, rounds, halves_xored, F}
use Rattle.digest.proofs.compression.compress.Goals as goal

pub returns : goal.returns
unfolding F rounds scheduled halves_xored
returns c =
    let after = λ (i : ℕ) (v : List ℕ). round v (scheduled c.args.m.now i) in
    ap (halves_xored c.args.h)
    (c.round-12.ensures
    ∙ ap (after 11) (c.round-11.ensures
    ∙ ap (after 10) (c.round-10.ensures
    ∙ ap (after 9) (c.round-9.ensures
    ∙ ap (after 8) (c.round-8.ensures
    ∙ ap (after 7) (c.round-7.ensures
    ∙ ap (after 6) (c.round-6.ensures
    ∙ ap (after 5) (c.round-5.ensures
    ∙ ap (after 4) (c.round-4.ensures
    ∙ ap (after 3) (c.round-3.ensures
    ∙ ap (after 2) (c.round-2.ensures
    ∙ ap (after 1) (c.round.ensures
    ∙ ap (after 0) c.work_vector-v.ensures))))))))))))
