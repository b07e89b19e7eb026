-- The pieces of which every walk over a stretch is made: what each of them refuses and where, and what it tells else.
use Rattle.std.specs.Prelude.{ℕ, zero, suc, ◌+◌, Bool, false, ◌&&◌, ◌||◌, List, length, ◌==◌, nat_le, nat_lt, slice_index}
use Rattle.text.specs.Letter.{letter, first_not}
use Rattle.text.specs.Text.{Variant}
use Rattle.text.specs.Compare.{alike}
use Rattle.text.specs.Refusal.{Outcome, ok, refused, demand, after}
use Rattle.layout.specs.Bytes.{greatest_stretch, word, part}
use Rattle.layout.specs.declared.pieces.Part.{Part}

-- at most 32,768 bytes before o, else 4; and that alone
abbrev pub fits : {A : Type 0} → List ℕ → Outcome A → Outcome A
fits s o = demand (nat_le (length s) greatest_stretch) 4 0 o

unfoldable pub fits_at : List ℕ → Outcome (Unit {0})
fits_at s = fits s (ok tt)

-- the segment count of a stretch: 5 where it is cut off
unfoldable pub open_at : List ℕ → Outcome ℕ
open_at s = demand (nat_le 2 (length s)) 5 0 (ok (word s 0))

-- the variant count of the segment at `at`: 5 where it is cut off, then 6
unfoldable pub variants_at : List ℕ → ℕ → Outcome ℕ
variants_at s at = demand (nat_lt at (length s)) 5 at (demand (nat_lt 0 (slice_index s at)) 6 at (ok (slice_index s at)))

-- the letters of the variant whose length stands at `at`, as they stand, and the place after them
abbrev pub letters_at : List ℕ → ℕ → List ℕ
letters_at s at = part s (at + 2) (word s at)

abbrev pub next_of : List ℕ → ℕ → ℕ
next_of s at = at + 2 + word s at

-- the head of the variant at `at`: 5 where its length or its letters are cut off
unfoldable pub head_at : List ℕ → ℕ → Outcome Part
head_at s at = demand (nat_le (next_of s at) (length s)) 5 at (ok (record { start = at + 2; next = next_of s at }))

-- the place of its first byte that is no letter
abbrev pub wrong_place : List ℕ → ℕ → ℕ
wrong_place s at = at + 2 + first_not letter (letters_at s at)

-- v spells what one of the variants spells that stand one after another from `place` on and begin before `at`; n bounds their number
unfoldable pub repeated_before : List ℕ → Variant → ℕ → ℕ → ℕ → Bool
repeated_before s v at zero place = false
repeated_before s v at (suc n) place = nat_lt place at && (alike v (letters_at s place) || repeated_before s v at n (next_of s place))

-- the same of a v that has room at `at`; none is looked at where it has not. A variant takes two bytes, so there are at most `at`
unfoldable pub repeats : List ℕ → Variant → ℕ → ℕ → Bool
repeats s v first at = nat_le (at + 2 + length v) (length s) && repeated_before s v at at first

-- the variant at `at`, one of whose letters is wrong: 7 at the first that is
unfoldable pub misspelt_at : List ℕ → ℕ → Outcome (Unit {0})
misspelt_at s at = after (head_at s at) λ _. refused 7 (wrong_place s at)

-- the most segments of a stretch
abbrev pub most_in_stretch : ℕ
most_in_stretch = 10922

-- after the last of n segments, at `at`: 9 where bytes are left, then 16
unfoldable pub closed_at : List ℕ → ℕ → ℕ → Outcome (Unit {0})
closed_at s at n = demand (at == length s) 9 at (demand (nat_le n most_in_stretch) 16 0 (ok tt))
