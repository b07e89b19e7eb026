-- `search::borders::carried::carried_one` meets its contract. Each answer is a law of one carried length, from the tests that led to
-- it and from what `alike_prefix` ensures.
use Rattle.search.proofs.BorderCarried.{carries-end, carries-on, carries-not}
use Rattle.search.proofs.borders.carried.carried_one.Goals as goal

pub returns-then-rest-n : goal.returns-then-rest-n
returns-then-rest-n c =
    carries-end _ c.args.variant.now _ c.requires.q_in_bounds c.requires.sound_pattern c.if-rest-n.true c.alike_prefix.ensures

pub returns-then-alike_prefix : goal.returns-then-alike_prefix
returns-then-alike_prefix c =
    carries-on _ c.args.variant.now _ c.requires.q_in_bounds c.requires.sound_pattern c.if-rest-n.false c.alike_prefix-2.ensures c.if-alike_prefix.true

pub returns-else-alike_prefix : goal.returns-else-alike_prefix
returns-else-alike_prefix c =
    carries-not _ c.args.variant.now _ c.requires.q_in_bounds c.requires.sound_pattern c.if-rest-n.false c.alike_prefix-2.ensures c.if-alike_prefix.false
