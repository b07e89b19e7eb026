-- `eds_notation::filling::put` meets its contract.
use borrow.Author.Rules.{rules}
use Rattle.std.proofs.Common.{◌≡◌, Ok, Err}
use Rattle.eds_notation.specs.Notation.{Doing}
use Rattle.eds_notation.specs.declared.notation.Act.{Act}
use Rattle.eds_notation.specs.declared.filling.Stop.{Stop}
use Rattle.eds_notation.proofs.Fillings.{pass-acted, letter-acted, variant-acted, segment-acted, wrong-acted}
use Rattle.eds_notation.proofs.filling.put.Goals as goal

-- what a byte does, from its two parts
does : {a : Doing} {x y : Act} → a ≡ Ok x → x ≡ y → a ≡ Ok y
does e f = rw f at e

pub returns-in_err-begun : goal.returns-in_err-begun
returns-in_err-begun c =
    let stopped : c.from_residual.result ≡ Err (Stop.Wrong c.in_err-begun.field-0.0) = search rules in
    let whole = wrong-acted _ _ _ _ _ c.in_err-begun.was in rw stopped (record { value = whole.0; counts_after = whole.1 })

pub returns-in-Pass : goal.returns-in-Pass
returns-in-Pass c =
    let whole = pass-acted _ _ _ _ _ (does c.in_ok-begun.was c.in-Pass.is) in record { value = whole.0; counts_after = whole.1 }

pub returns-in-Letter : goal.returns-in-Letter
returns-in-Letter c =
    let whole =
    letter-acted _ _ _ _ _ (does c.in_ok-begun.was c.in-Letter.is) _ _ c.put_letter.ensures.value c.put_letter.ensures.letters_after in
    record { value = whole.0; counts_after = whole.1 }

pub returns-in-Variant : goal.returns-in-Variant
returns-in-Variant c =
    let whole =
    variant-acted _ _ _ _ _ (does c.in_ok-begun.was c.in-Variant.is) _ _ c.put_variant.ensures.value c.put_variant.ensures.lengths_after in
    record { value = whole.0; counts_after = whole.1 }

pub returns-in-Segment : goal.returns-in-Segment
returns-in-Segment c =
    let whole =
    segment-acted _ _ _ _ _ (does c.in_ok-begun.was c.in-Segment.is) _ _ _ c.put_segment.ensures.value c.put_segment.ensures.lengths_after
    c.put_segment.ensures.counts_after in
    record { value = whole.0; counts_after = whole.1 }
