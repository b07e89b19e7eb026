-- `search::Pair::marked` meets its contract: what `enter_both` asks first, then `mark_both` with the letter vectors of the pattern as
-- given and as the opposite strand reads it.
use Rattle.std.proofs.Common.{◌≡◌, Err, sym, ap, ◌∙◌, arith, rules}
use Rattle.text.specs.Refusal.{outcome}
use Rattle.text.specs.declared.strand.Strand.TheVariants.{Opposite}
use Rattle.text.proofs.Strands.{strand-sound}
use Rattle.search.proofs.BitScans.{masks-short}
use Rattle.search.proofs.Entries.{state-of}
use Rattle.search.proofs.ReadOns.{read_is, read_length, read-room, read-state}
use Rattle.search.proofs.Eithers.{EnteredBoth, both-entered, both-seek-not, both-seek-sound}
use Rattle.search.proofs.both.words.Pair.marked.Goals as goal
use Rattle.search.proofs.both.words.Pair.marked.Goals.{In_ok-enter_both}

-- nothing is wrong before the stretch is read
entry : (c : In_ok-enter_both)
    → EnteredBoth c.args.pattern.now c.args.self.given c.args.self.opposite c.args.stretch.now
entry c = both-entered _ _ _ _ (sym c.enter_both.ensures ∙ ap outcome c.in_ok-enter_both.was)

pub slice_bounds-bytes-end : goal.slice_bounds-bytes-end
slice_bounds-bytes-end c = read-room Opposite _ _ c.read_on-bytes.ensures (entry (goal.at.slice_bounds-bytes-end c).In_ok-enter_both).own.sound

pub slice_bounds-masks_both-end : goal.slice_bounds-masks_both-end
slice_bounds-masks_both-end c = read_length Opposite _ _ c.read_on-bytes.ensures (entry (goal.at.slice_bounds-masks_both-end c).In_ok-enter_both).own.sound

pub mark_both-requires : goal.mark_both-requires
mark_both-requires c =
    let e = entry (goal.at.mark_both-requires c).In_ok-enter_both in
    let y = e.own.sound in
    let z = strand-sound Opposite _ y in
    let read = read_is Opposite _ _ c.read_on-bytes.ensures y in record {
      founds = (
        record { some = y.some; short = y.short; bases = y.bases; holds = masks-short _ _ y.short c.masks_both-table.ensures.others },
        record {
          some = z.some;
          short = z.short;
          bases = z.bases;
          holds = masks-short _ _ z.short (rw read at c.masks_both-table.ensures.others_2);
        },
      );
      state_of = (state-of _ _ e.own.state, rw read at (read-state Opposite _ _ c.read_on-bytes.ensures y _ e.turned), omega (arith, e.own.short));
    }

pub returns-in_err-enter_both : goal.returns-in_err-enter_both
returns-in_err-enter_both c =
    let same : c.from_residual.result ≡ Err c.in_err-enter_both.field-0.0 = search rules in
    let wrong = sym c.enter_both.ensures ∙ ap outcome c.in_err-enter_both.was in
    let whole = both-seek-not _ _ _ _ _ _ _ wrong in
    rw same record { result_value = whole.0; marks_after = whole.1 }

pub returns : goal.returns
returns c =
    let whole = both-seek-sound _ _ _ _ c.args.marks.now (entry (goal.at.returns c).In_ok-enter_both) _ _ (c.mark_both.ensures.result_value, c.mark_both.ensures.marks_after) in record { result_value = whole.0; marks_after = whole.1 }
