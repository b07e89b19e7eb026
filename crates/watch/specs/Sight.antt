-- The walk of a record over a stretch that was found sound: what its steps rest on, and what they tell.
use Rattle.std.specs.Prelude.{ℕ, ◌≤◌, ◌<◌, ◌≡◌, Bool, true, cond, List, [], ◌∷◌, length, ltb, Option, Some, None}
use Rattle.text.specs.Letter.{meant}
use Rattle.text.specs.Text.{Variant, Segment, Text}
use Rattle.text.specs.State.{next, ends}
use Rattle.text.specs.Refusal.{ok}
use Rattle.text.specs.Card.{none}
use Rattle.layout.specs.Reading.{segment_at, whole_stretch}
use Rattle.search.specs.First.{unless}
use Rattle.watch.specs.Watching.{sound}
use Rattle.watch.specs.declared.watched.Watched.{Watched}
use Rattle.search.specs.Masks.{Others, StateOf}
use Rattle.search.specs.Words.{Turned}

-- a pattern of 1 to 64 bases, and the complement of its letter vectors
pub record Vectors (P vectors : List ℕ) : Type 0 where
  pub some : 0 < length P
  pub short : length P ≤ 64
  pub turned : Others P vectors

-- the same with one of its states
pub record Armed (P vectors : List ℕ) (st : ℕ) : Type 0 where
  pub tables : Vectors P vectors
  pub state : StateOf P st

-- what a scan of the variant with the bytes v comes to, for every pattern whose letter vectors these are
abbrev pub ScannedBy : List ℕ → ℕ → ℕ → Variant → ℕ → ℕ → Type 0
ScannedBy vectors st before v out missed = (P : List ℕ) → Armed P vectors st → Turned P st (meant v ∷ []) before out missed

-- the segment that stands from `at` up to `behind`, the state after it, and whether an occurrence ends in it
pub record Stepped (P : List ℕ) (st : ℕ) (s : List ℕ) (at behind state : ℕ) (end : Bool) : Type 0 where
  pub segment : Segment
  pub read : segment_at s at ≡ ok (record { value = segment; next = behind })
  pub reached : state ≡ next P st segment
  pub ended : end ≡ ends P st segment

-- the text of a sound stretch
unfoldable pub text_of : List ℕ → Text
text_of s = unless (whole_stretch s) [] (λ t. t)

-- a record that may be looked for in a stretch: both were found sound
pub record Sought (s : List ℕ) (w : Watched) : Type 0 where
  pub means : whole_stretch s ≡ ok (text_of s)
  pub spells : sound w ≡ true

-- a segment in which an occurrence ends, or none
unfoldable pub some_end : ℕ → Option ℕ
some_end k = cond (ltb k none) (Some k) None
