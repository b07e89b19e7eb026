use Rattle.std.proofs.Common.{◌≡◌, ◌-◌, ◌<◌, ◌≤◌, length, sym, ap, ◌∙◌, ap₂, arith}
use Rattle.std.proofs.lemmas.List.{take_rest}
use Rattle.digest.specs.Updating.{emptied, passed, with_bytes}
use Rattle.digest.specs.declared.Hashing.{Hashing}
use Rattle.digest.proofs.Updates.{fills, past, next}
use Rattle.digest.proofs.Hashing.over.Goals as goal

pub returns-then-bytes-room : goal.returns-then-bytes-room
returns-then-bytes-room c =
    let l : length c.args.bytes.now ≤ 128 - c.args.self.c = omega arith in
    c.fill.ensures ∙ sym (fills c.args.self c.args.bytes.now l)

pub loop-rest-init : goal.loop-rest-init
unfolding passed
loop-rest-init c =
    let x = c.args.self in
    let s = c.args.bytes.now in
    let r = c.saturating_sub-room in
    let e = c.pass.ensures ∙ ap passed c.fill-2.ensures in
    let l : r.result < length s = omega arith in (
      c.pass.ensures ∙ sym (ap (λ (y : Hashing). emptied y.h y.t) c.pass.ensures),
      ap₂ with_bytes e (take_rest s r.result) ∙ sym (past x s r.result r.ensures l),
    )

pub loop-rest-preserved : goal.loop-rest-preserved
loop-rest-preserved c =
    let l = c.loop-rest in
    let n = next l.self l.rest.now l.invariant.0 (omega arith) c.compress-self.ensures c.read.ensures (take_rest l.rest.now 128) in
    (n.0, n.1 ∙ l.invariant.1)

pub returns : goal.returns
returns c =
    let l = c.loop-rest in
    let e : l.self.c ≡ 0 = ap (λ (y : Hashing). y.c) l.invariant.0 in
    let room : length l.rest.now ≤ 128 - l.self.c = omega arith in
    c.fill-3.ensures ∙ sym (fills l.self l.rest.now room) ∙ l.invariant.1
