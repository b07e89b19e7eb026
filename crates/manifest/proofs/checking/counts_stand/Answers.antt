-- `manifest::checking::counts_stand` meets its contract: the line is put together, and compared with what stands there.
use mathlib.Core.Path.{refl, sym}
use lib.Seq.{length-take-le}
use Rattle.manifest.proofs.Seals.{counts-none, counts-size, counts-short, counts-are}
use Rattle.manifest.proofs.checking.counts_stand.Goals as goal

pub returns-then-manifest-lt-SEAL : goal.returns-then-manifest-lt-SEAL
returns-then-manifest-lt-SEAL c = counts-none _ _ _ _ c.if-manifest-lt-SEAL.true

pub returns-then-end-size : goal.returns-then-end-size
returns-then-end-size c =
    let f = c.ranges in
    counts-short _ _ _ _ c.put_bytes-from.ensures c.put_counts-size.ensures refl f.stretches.fits f.segments.fits f.bytes.fits
    refl c.if-end-size.true

pub slice_bounds-line-end : goal.slice_bounds-line-end
slice_bounds-line-end c =
    let f = c.ranges in
    counts-size c.args.manifest.now _ _ _ c.put_bytes-from.ensures c.put_counts-size.ensures refl f.stretches.fits
    f.segments.fits f.bytes.fits

pub slice_bounds-same-end : goal.slice_bounds-same-end
slice_bounds-same-end c =
    let f = c.ranges in
    sym
    (length-take-le c.put_counts-size.result c.put_counts-size.new.out
    (counts-size c.args.manifest.now _ _ _ c.put_bytes-from.ensures c.put_counts-size.ensures refl f.stretches.fits
    f.segments.fits f.bytes.fits))

pub returns : goal.returns
returns c =
    let f = c.ranges in
    counts-are _ _ _ _ c.put_bytes-from.ensures c.put_counts-size.ensures refl f.stretches.fits f.segments.fits f.bytes.fits
    refl c.if-end-size.false refl c.same.ensures
