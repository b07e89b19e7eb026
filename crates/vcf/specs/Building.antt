-- The text of a window and its records, and the order of refusals.
use Rattle.std.specs.Prelude.{ℕ, ◌-◌, cond, List, [], ◌∷◌, ◌++◌, ltb, length}
use Rattle.text.specs.Letter.{letter, meant, every, first_not}
use Rattle.text.specs.Text.{Text}
use Rattle.text.specs.Compare.{prefix}
use Rattle.text.specs.Refusal.{Outcome, demand, after}
use Rattle.layout.specs.Bytes.{part}
use Rattle.writer.specs.Putting.{putting}
use Rattle.vcf.specs.Pieces.{lines}
use Rattle.vcf.specs.Records.{heading, position, reference, alts, behind, placed, records, touching}

-- the bases from a up to b as a segment of one variant; none where there are none
unfoldable pub gap : List ℕ → ℕ → ℕ → Text
gap w a b = cond (ltb a b) ((part w a (b - a) ∷ []) ∷ []) []

-- the text of the window from base `from` on, which holds these records: bases before, between and after them, and each record
unfoldable pub text_from : List ℕ → ℕ → ℕ → List (List ℕ) → Text
text_from w p from [] = gap w from (length w)
text_from w p from (l ∷ ls) =
    gap w from (position l - p) ++ ((reference l ∷ alts l) ∷ text_from w p (behind l - p) ls)

-- the text of a window that a file gives: the records are the lines that have a base in it
abbrev pub window_text : List ℕ → ℕ → List ℕ → Text
window_text w p file = text_from w p 0 (touching w p (lines file))

-- the text of the window whose first base stands at position p, made from a variant file, into `room` bytes. The window's letters
-- are taken by what they mean
unfoldable pub building : List ℕ → List ℕ → ℕ → List ℕ → ℕ → Outcome Text
building file window p name room =
    demand (placed window p) 28 0
    (demand (prefix heading file) 18 0
    (demand (every letter window) 7 (first_not letter window)
    (after (records name (meant window) p 1 0 (lines file)) λ ls.
    (putting (text_from (meant window) p 0 ls) room))))
