-- What the answers of the calls say, in document 01's numbers and values, and what they are to say.
use Rattle.std.specs.Prelude.{ℕ, length}
use Rattle.text.specs.Text.{Text}
use Rattle.text.specs.Refusal.{Outcome, ok, after}
use Rattle.layout.specs.Reading.{Taken}
use Rattle.layout.specs.Encoding.{encode}
use Rattle.writer.specs.Writing.{Spot}

-- the number of the first letter after what a write has checked
abbrev pub reached : {A : Type 0} → Outcome (Taken A Spot) → Outcome ℕ
reached o = after o λ x. ok x.next.letter

-- the bytes that a write has written
abbrev pub written : Outcome Text → Outcome ℕ
written o = after o λ t. ok (length (encode t))
