-- `vcf::building::build` meets its contract: what the survey refuses, the room, and the text.
use mathlib.Core.Path.{refl}
use Rattle.writer.proofs.Writings.{refused-leaves}
use Rattle.vcf.proofs.Builds.{build-leaves}
use Rattle.vcf.proofs.building.build.Goals as goal

pub returns-then-out-needed : goal.returns-then-out-needed
returns-then-out-needed c =
    let whole = refused-leaves _ refl
    ((rw c.in-Ok.is at c.survey.ensures).short _ c.if-out-needed.true) in record { answer = whole.0; buffer = whole.1 }

pub put_text-requires : goal.put_text-requires
put_text-requires c =
    (rw c.in-Ok.is at c.survey.ensures).readable _ c.if-out-needed.false

pub returns-in-Err : goal.returns-in-Err
returns-in-Err c =
    let whole = refused-leaves _ refl ((rw c.in-Err.is at c.survey.ensures).always _) in record { answer = whole.0; buffer = whole.1 }

pub returns-else-out-needed : goal.returns-else-out-needed
returns-else-out-needed c =
    let whole = build-leaves (rw c.in-Ok.is at c.survey.ensures) _ _ c.if-out-needed.false
    c.put_text.ensures in record { answer = whole.0; buffer = whole.1 }
