use Rattle.search.proofs.BorderTables.{building-none, building-matched, building-more, building-all}
use Rattle.search.proofs.borders.table.border_table.Goals as goal

pub loop-i-init : goal.loop-i-init
loop-i-init c = building-none c.requires

pub fallback-k-requires : goal.fallback-k-requires
fallback-k-requires c =
    building-matched c.loop-i.invariant c.requires c.loop-i-test.true

pub loop-i-preserved : goal.loop-i-preserved
loop-i-preserved c =
    building-more c.loop-i.invariant c.requires c.loop-i-test.true c.fallback-k.ensures

pub returns : goal.returns
returns c = building-all c.loop-i.invariant c.loop-i-test.false
