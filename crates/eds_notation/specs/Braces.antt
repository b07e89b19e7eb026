-- The notation of a text: every segment in braces, its variants parted by commas.
use Rattle.std.specs.Prelude.{ℕ, ◌<◌, ◌≡◌, Bool, List, [], ◌∷◌, ◌++◌, ltb, length, Result, Ok, Err}
use Rattle.text.specs.Text.{Segment, Text, segment}
use Rattle.text.specs.Refusal.{ok, refused}
use Rattle.layout.specs.Reading.{stretch_of}
use Rattle.layout.specs.Encoding.{bytes_of}
use Rattle.layout.specs.Standing.{standing}
use Rattle.lines.specs.Puts.{Put}
use Rattle.text.specs.declared.refusal.Refusal.{Refusal}

-- the variants of a segment, the first after this mark and each further one after a comma, and the brace that closes
unfoldable pub listed : ℕ → Segment → List ℕ
listed mark [] = 0x7D ∷ []
listed mark (v ∷ g) = (mark ∷ []) ++ (v ++ listed 0x2C g)

-- a segment: it has a variant
abbrev pub braced : Segment → List ℕ
braced g = listed 0x7B g

-- a text
unfoldable pub in_braces : Text → List ℕ
in_braces T = bytes_of braced T

-- whether variant v of segment j is there, in an accepted stretch
unfoldable pub ThereIs : List ℕ → ℕ → ℕ → Bool → Type 0
ThereIs s j v r = (t : Text) → stretch_of s ≡ ok t → j < length t → r ≡ ltb v (length (segment t j))

-- segment j of an accepted stretch is put, its letters as they stand
unfoldable pub SegmentShown : List ℕ → ℕ → List ℕ → ℕ → List ℕ → ℕ → Type 0
SegmentShown s j d at out n = (t : Text) → stretch_of s ≡ ok t → j < length t → Put d at (braced (segment (standing s) j)) out n

-- an accepted stretch's notation is put, its letters as they stand; a refused one's refusal is told, and nothing is put
pub record Shown (s d out : List ℕ) (n : ℕ) : Type 0 where
  pub text : Text
  pub means : stretch_of s ≡ ok text
  pub put : Put d 0 (in_braces (standing s)) out n

unfoldable pub BracesPut : List ℕ → List ℕ → Result ℕ Refusal → List ℕ → Type 0
BracesPut s d (Ok n) out = Shown s d out n
BracesPut s d (Err w) out = (stretch_of s ≡ refused w.number w.place) × (out ≡ d)
