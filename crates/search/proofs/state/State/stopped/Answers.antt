-- `search::State::stopped` meets its contract: what `enter` asks first, then what the run that stops says of the pattern as the strand
-- reads it.
use Rattle.std.proofs.Common.{◌≡◌, Err, refl, sym, ap, ◌∙◌, arith, rules}
use mathlib.Core.Bool.{false≢true}
use Rattle.text.specs.Refusal.{outcome}
use Rattle.layout.proofs.Going.{Opening, open_is, open-not}
use Rattle.search.proofs.Entries.{Entered, entered}
use Rattle.search.proofs.BitScans.{masks-short}
use Rattle.search.proofs.ReadOns.{read_is, read_length, read-room, read-sound, read-state}
use Rattle.search.proofs.Hits.{first-not, first-is, hit-closed, hit-walk}
use Rattle.search.proofs.state.State.stopped.Goals as goal
use Rattle.search.proofs.state.State.stopped.Goals.{In_ok-enter, In_ok-walk}

-- nothing is wrong before the stretch is read
entry : (c : In_ok-enter)
    → Entered c.args.pattern.now c.args.self.bits c.args.stretch.now
entry c = entered _ _ _ (sym c.enter.ensures ∙ ap outcome c.in_ok-enter.was)

-- the stretch was opened
opening : (v : In_ok-walk) → Opening v.args.stretch.now v.in_ok-walk.walk
opening v = open_is _ v.«open».ensures v.in_ok-walk.was

pub returns-in_err-enter-clause-value : goal.returns-in_err-enter-clause-value
returns-in_err-enter-clause-value c =
    let same : c.from_residual.result ≡ Err c.in_err-enter.field-0.0 = search rules in
    let wrong = sym c.enter.ensures ∙ ap outcome c.in_err-enter.was in
    rw same (sym (first-not _ _ _ _ _ _ wrong))

pub slice_bounds-bytes-end : goal.slice_bounds-bytes-end
slice_bounds-bytes-end c = read-room _ _ _ c.read_on-bytes.ensures (entry (goal.at.slice_bounds-bytes-end c).In_ok-enter).sound

pub slice_bounds-read-end : goal.slice_bounds-read-end
slice_bounds-read-end c = read_length _ _ _ c.read_on-bytes.ensures (entry (goal.at.slice_bounds-read-end c).In_ok-enter).sound

pub returns-in_err-walk-clause-value : goal.returns-in_err-walk-clause-value
returns-in_err-walk-clause-value c =
    let same : c.from_residual-in_err-walk.result ≡ Err c.in_err-walk.field-0.0 = search rules in
    let y = entry (goal.at.returns-in_err-walk-clause-value c).In_ok-enter in
    let read = read_is _ _ _ c.read_on-bytes.ensures y.sound in
    let closed = hit-closed _ _ _ y.short _ _ (open-not _ c.«open».ensures c.in_err-walk.was).0 in
    rw same (sym (first-is _ _ _ _ _ read y _ (sym closed)))

pub run-requires : goal.run-requires
run-requires c =
    let y = entry (goal.at.run-requires c).In_ok-enter in
    let z = read-sound _ _ _ c.read_on-bytes.ensures y.sound in record {
      tools = (
        (z, masks-short _ _ z.short c.complements-table.ensures, c.classes-letters.ensures),
        read-state _ _ _ c.read_on-bytes.ensures y.sound _ y.state,
      );
      begun = ((opening (goal.at.run-requires c).In_ok-walk).begins, omega (arith, y.short));
      walk_in_bounds = λ kept. absurd (false≢true (sym kept));
    }

pub returns : goal.returns
returns c =
    let y = entry (goal.at.returns c).In_ok-enter in
    let read = read_is _ _ _ c.read_on-bytes.ensures y.sound in
    let all = (c.run.ensures.result_value refl).0 ∙ sym (hit-walk _ _ _ (opening (goal.at.returns c).In_ok-walk) y.short) in
    record { value = sym (first-is _ _ _ _ _ read y _ all); few = (c.run.ensures.result_value refl).1 }
