-- What each line adds to the text.
use Rattle.std.specs.Prelude.{ℕ, ◌+◌, ◌-◌, ◌<◌, ◌≤◌, ◌≡◌, true, false, cond, List, [], ◌∷◌, ◌++◌, ltb, length}
use Rattle.text.specs.Text.{Variant, Text}
use Rattle.vcf.specs.Records.{position, reference, alts, behind, idle}
use Rattle.vcf.specs.Records.{placed}
use Rattle.vcf.specs.Building.{gap}

-- bases as a segment of one variant, if there are any
unfoldable pub gap_of : Variant → Text
gap_of v = cond (ltb 0 (length v)) ((v ∷ []) ∷ []) []

-- what a line adds after base `base`, and the first base after it
unfoldable pub line_text : List ℕ → ℕ → ℕ → List ℕ → Text
line_text w p base l = cond (idle w p l) [] (gap w base (position l - p) ++ ((reference l ∷ alts l) ∷ []))

unfoldable pub line_base : List ℕ → ℕ → ℕ → List ℕ → ℕ
line_base w p base l = cond (idle w p l) base (behind l - p)

-- how many records are left after it
unfoldable pub line_left : List ℕ → ℕ → ℕ → List ℕ → ℕ
line_left w p left l = cond (idle w p l) left (left - 1)

-- where a record of the window lies, and that it is one of those left
pub record Lies (w : List ℕ) (p base left : ℕ) (l : List ℕ) : Type 0 where
  pub first : p ≤ position l
  pub last : behind l ≤ p + length w
  pub based : base ≤ position l - p
  pub few : length (alts l) ≤ 254
  pub some : 0 < left

-- a line that adds nothing, or a record that lies in the window
pub record Placing (w : List ℕ) (p base left : ℕ) (l : List ℕ) : Type 0 where
  pub put : placed w p ≡ true
  pub lies : idle w p l ≡ false → Lies w p base left l
