-- A text that comes in pieces: lone segments fed, or stretches searched, one after another, the state of each handed on to the next.
use Rattle.std.specs.Prelude.{ℕ, cond, List, [], ◌∷◌, ◌++◌}
use Rattle.text.specs.Text.{Text}
use Rattle.text.specs.State.{marks_from}
use Rattle.text.specs.Refusal.{Outcome, ok, after}
use Rattle.text.specs.Strand.{on_strand}
use Rattle.text.specs.declared.strand.Strand.{Strand}
use Rattle.layout.specs.Reading.{segment_of, stretch_of}
use Rattle.search.specs.Answers.{Next, feeding, seeking, seen_from}
use Rattle.search.specs.First.{Hit, ends_in, clear, firsting}

-- the text of lone segments; the first that is refused refuses all
unfoldable pub segments_text : List (List ℕ) → Outcome Text
segments_text [] = ok []
segments_text (s ∷ ss) = after (segment_of s) λ g. after (segments_text ss) λ T. ok (g ∷ T)

-- lone segments fed one by one, of the pattern as a strand reads it
unfoldable pub feeds : List ℕ → Strand → ℕ → List (List ℕ) → Outcome (List Next)
feeds P strand st [] = ok []
feeds P strand st (s ∷ ss) = after (feeding P strand st s) λ x. after (feeds P strand x.state ss) λ xs. ok (x ∷ xs)

-- whether an occurrence ends, as a mark
abbrev pub mark_of : Next → ℕ
mark_of x = cond x.ends 1 0

-- the text of stretches end to end; the first that is refused refuses all
unfoldable pub stretches_text : List (List ℕ) → Outcome Text
stretches_text [] = ok []
stretches_text (s ∷ ss) = after (stretch_of s) λ t. after (stretches_text ss) λ T. ok (t ++ T)

-- an end stays; where nothing ends, go on with the state
abbrev pub onward : (ℕ → Outcome Hit) → Hit → Outcome Hit
onward f (ends_in k) = ok (ends_in k)
onward f (clear st) = f st

-- the marks that searches leave, end to end, and the state after the last of them
pub record Trail : Type 0 where
  pub marks : List ℕ
  pub state : ℕ

-- stretches searched one by one, each into a buffer of that many bytes, of the pattern as a strand reads it
unfoldable pub seeks : List ℕ → Strand → ℕ → ℕ → List (List ℕ) → Outcome Trail
seeks P strand st room [] = ok (record { marks = []; state = st })
seeks P strand st room (s ∷ ss) =
    after (seeking P st s room) λ t.
    after (seeks P strand (seen_from (on_strand strand P) st t).state room ss) λ x.
    ok (record { marks = marks_from (on_strand strand P) st t ++ x.marks; state = x.state })

-- stretches asked one by one for the first hit, of the pattern as a strand reads it: each from the state after the one before, up to
-- the first in which something ends
unfoldable pub asks : List ℕ → Strand → ℕ → List (List ℕ) → Outcome Hit
asks P strand st [] = ok (clear st)
asks P strand st (s ∷ ss) = after (firsting P strand st s) (onward λ reached. asks P strand reached ss)
