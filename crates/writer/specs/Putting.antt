-- A text written whole: what a write of its letters, lengths and counts asks of it.
use Rattle.std.specs.Prelude.{ℕ, suc, Bool, not, ◌&&◌, [], ◌∷◌, ◌++◌, leb, ltb, length}
use Rattle.text.specs.Letter.{capital, every}
use Rattle.text.specs.Text.{Segment, Text}
use Rattle.text.specs.Refusal.{Outcome, ok, demand, after}
use Rattle.layout.specs.Bytes.{greatest_stretch}
use Rattle.layout.specs.Reading.{among}
use Rattle.layout.specs.Encoding.{encode, all}

-- 1 to 255 variants of letters in upper case, perhaps one of them twice
unfoldable pub formed_segment : Segment → Bool
formed_segment g = ltb 0 (length g) && leb (length g) 255 && all (every capital) g

-- variants after those seen of their segment, numbered from k: 8 at the first equal to an earlier one; else the number after them
unfoldable pub once_in : ℕ → Segment → Segment → Outcome ℕ
once_in k seen [] = ok k
once_in k seen (v ∷ g) =
    let rest : Outcome ℕ = once_in (suc k) (seen ++ (v ∷ [])) g in
    demand (not (among v seen)) 8 k rest

-- segments whose variants are numbered from k, one after another
unfoldable pub once : ℕ → Text → Outcome ℕ
once k [] = ok k
once k (g ∷ T) = after (once_in k [] g) λ n. once n T

-- a text into `room` bytes: 4, 8 and 15
unfoldable pub putting : Text → ℕ → Outcome Text
putting T room =
    demand (leb (length (encode T)) greatest_stretch) 4 0
    (after (once 0 T) λ _.
    (demand (leb (length (encode T)) room) 15 0
    (ok T)))
