-- `search::State::fed` meets its contract: what `enter` asks first, then what `run` tells of the segment, of the pattern as the strand
-- reads it.
use Rattle.std.proofs.Common.{◌≡◌, Err, refl, sym, ap, ◌∙◌, arith, rules}
use Rattle.text.specs.Refusal.{outcome}
use Rattle.search.proofs.BitScans.{masks-short}
use Rattle.search.proofs.Entries.{Entered, entered}
use Rattle.search.proofs.ReadOns.{read_is, read_length, read-room, read-sound, read-state}
use Rattle.search.proofs.Feeds.{lone-begins, fed-not, fed-run}
use Rattle.search.proofs.state.State.fed.Goals as goal
use Rattle.search.proofs.state.State.fed.Goals.{In_ok-enter}

-- nothing is wrong before the segment is read
entry : (c : In_ok-enter)
    → Entered c.args.pattern.now c.args.self.bits c.args.segment.now
entry c = entered _ _ _ (sym c.enter.ensures ∙ ap outcome c.in_ok-enter.was)

pub returns-in_err-enter : goal.returns-in_err-enter
returns-in_err-enter c =
    let same : c.from_residual.result ≡ Err c.in_err-enter.field-0.0 = search rules in
    let wrong = sym c.enter.ensures ∙ ap outcome c.in_err-enter.was in
    rw same (sym (fed-not _ _ _ _ _ _ wrong))

pub slice_bounds-bytes-end : goal.slice_bounds-bytes-end
slice_bounds-bytes-end c = read-room _ _ _ c.read_on-bytes.ensures (entry (goal.at.slice_bounds-bytes-end c).In_ok-enter).sound

pub slice_bounds-read-end : goal.slice_bounds-read-end
slice_bounds-read-end c = read_length _ _ _ c.read_on-bytes.ensures (entry (goal.at.slice_bounds-read-end c).In_ok-enter).sound

pub run-requires : goal.run-requires
run-requires c =
    let y = entry (goal.at.run-requires c).In_ok-enter in
    let z = read-sound _ _ _ c.read_on-bytes.ensures y.sound in
    let w = lone-begins c.args.segment.now c.lone-walk.ensures in record {
      tools = (
        (z, masks-short _ _ z.short c.complements-table.ensures, c.classes-letters.ensures),
        read-state _ _ _ c.read_on-bytes.ensures y.sound _ y.state,
      );
      begun = (w.0, omega (arith, w.1));
      walk_in_bounds = λ _. omega (arith, w.1);
    }

pub returns : goal.returns
returns c =
    let y = entry (goal.at.returns c).In_ok-enter in
    let read = read_is _ _ _ c.read_on-bytes.ensures y.sound in
    fed-run _ _ _ _ _ read y c.lone-walk.ensures (c.run.ensures.result_value_2 refl)
