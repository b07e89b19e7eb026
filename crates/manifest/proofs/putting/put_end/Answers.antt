-- `manifest::putting::put_end` meets its contract, whether there is room for the last line or not.
use mathlib.Core.Path.{sym}
use lib.Seq.{length-take-le}
use Rattle.manifest.proofs.Seals.{end-far, end-put}
use Rattle.manifest.proofs.putting.put_end.Goals as goal

pub returns-then-out-end : goal.returns-then-out-end
returns-then-out-end c = end-far _ _ _ c.put_counts-end.ensures c.if-out-end.true

pub slice_bounds-digest-end-2 : goal.slice_bounds-digest-end-2
slice_bounds-digest-end-2 c =
    let o = c.put_counts-end in
    sym (length-take-le o.result o.new.out c.if-out-end.false)

pub returns : goal.returns
returns c =
    end-put _ _ _ c.put_counts-end.ensures c.digest-seal.ensures c.put_seal.ensures
