-- `layout::pieces::fits` meets its contract, by the one test.
use Rattle.std.proofs.Common.{sym}
use Rattle.layout.proofs.Frames.{fits-long, fits-short}
use Rattle.layout.proofs.pieces.fits.Goals as goal

pub returns-then-stretch-gt-GREATEST_STRETCH : goal.returns-then-stretch-gt-GREATEST_STRETCH
returns-then-stretch-gt-GREATEST_STRETCH c = sym (fits-long _ c.if-stretch-gt-GREATEST_STRETCH.true)

pub returns : goal.returns
returns c = sym (fits-short _ c.if-stretch-gt-GREATEST_STRETCH.false)
