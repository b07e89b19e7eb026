-- Words of the search by bit-vectors, before bits from m up are cleared: what they say of a state and of an end.
use Rattle.std.specs.Prelude.{ℕ, ◌-◌, ◌^◌, ◌<◌, ◌≡◌, Bool, true, not, List, [], ◌∷◌, length}
use Rattle.std.specs.Int.Bits.{bit_and}
use Rattle.text.specs.Letter.{letter, meant, every}
use Rattle.text.specs.Text.{Variant, Segment}
use Rattle.text.specs.Bits.{bit}
use Rattle.text.specs.State.{next, ends}
use Rattle.search.specs.Masks.{others, Ready}

-- from the state st the variants of g lead to the state that `bits` has below m, and the last bit of `hits` tells whether an
-- occurrence ends in one of them
pub record Words (P : List ℕ) (st : ℕ) (g : Segment) (bits hits : ℕ) : Type 0 where
  pub state : (r : ℕ) → r < length P → bit bits r ≡ bit (next P st g) r
  pub fits : hits < 2 ^ length P
  pub end : bit hits (length P - 1) ≡ ends P st g

-- the same of words whose other bits are kept; what the words on the way have is taken out of what was missed before
pub record Turned (P : List ℕ) (st : ℕ) (g : Segment) (before out missed : ℕ) : Type 0 where
  pub word : out < 2 ^ 64
  pub hits : ℕ
  pub near : hits < 2 ^ 64
  pub rest : missed ≡ bit_and before (others hits)
  pub words : Words P st g (others out) hits

-- what a scan of the variant with the bytes v comes to, for every pattern whose tables these are
abbrev pub ScannedBy : List ℕ → List ℕ → ℕ → ℕ → Variant → ℕ → ℕ → Bool → Type 0
ScannedBy masks classes st before v out missed wrong =
    (P : List ℕ) → Ready P masks classes st → Turned P st (meant v ∷ []) before out missed × (wrong ≡ not (every letter v))

-- what a method tells of the bytes v: whether one of them is no letter, and if none is, the words of what they mean
abbrev pub LettersBy : List ℕ → ℕ → ℕ → Variant → ℕ → ℕ → Bool → Type 0
LettersBy P st before v out missed wrong =
    (wrong ≡ not (every letter v)) × (every letter v ≡ true → Turned P st (meant v ∷ []) before out missed)
