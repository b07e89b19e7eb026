-- `search::State::marked` meets its contract: what `enter` asks first, then what `mark` answers of the pattern as the strand reads it.
use Rattle.std.proofs.Common.{◌≡◌, Err, sym, ap, ◌∙◌, arith, rules}
use Rattle.text.specs.Refusal.{outcome}
use Rattle.search.proofs.Entries.{Entered, entered}
use Rattle.search.proofs.BitScans.{masks-short}
use Rattle.search.proofs.ReadOns.{read_is, read_length, read-room, read-sound, read-state}
use Rattle.search.proofs.Searches.{seek-not, seek-sound}
use Rattle.search.proofs.state.State.marked.Goals as goal
use Rattle.search.proofs.state.State.marked.Goals.{In_ok-enter}

-- nothing is wrong before the stretch is read
entry : (c : In_ok-enter)
    → Entered c.args.pattern.now c.args.self.bits c.args.stretch.now
entry c = entered _ _ _ (sym c.enter.ensures ∙ ap outcome c.in_ok-enter.was)

pub slice_bounds-bytes-end : goal.slice_bounds-bytes-end
slice_bounds-bytes-end c = read-room _ _ _ c.read_on-bytes.ensures (entry (goal.at.slice_bounds-bytes-end c).In_ok-enter).sound

pub slice_bounds-read-end : goal.slice_bounds-read-end
slice_bounds-read-end c = read_length _ _ _ c.read_on-bytes.ensures (entry (goal.at.slice_bounds-read-end c).In_ok-enter).sound

pub mark-requires : goal.mark-requires
mark-requires c =
    let y = entry (goal.at.mark-requires c).In_ok-enter in
    let z = read-sound _ _ _ c.read_on-bytes.ensures y.sound in (
      (z, masks-short _ _ z.short c.complements-table.ensures, c.classes-letters.ensures),
      read-state _ _ _ c.read_on-bytes.ensures y.sound _ y.state,
      omega (arith, y.short),
    )

pub returns-in_err-enter : goal.returns-in_err-enter
returns-in_err-enter c =
    let same : c.from_residual.result ≡ Err c.in_err-enter.field-0.0 = search rules in
    let wrong = sym c.enter.ensures ∙ ap outcome c.in_err-enter.was in
    let whole = seek-not _ _ _ _ _ _ _ wrong in
    rw same record { result_value = whole.0; marks_after = whole.1 }

pub returns : goal.returns
returns c =
    let y = entry (goal.at.returns c).In_ok-enter in
    let read = read_is _ _ _ c.read_on-bytes.ensures y.sound in
    let whole = seek-sound _ _ _ _ c.args.marks.now y _ read _ _ (c.mark.ensures.result_value, c.mark.ensures.marks_after) in record { result_value = whole.0; marks_after = whole.1 }
