-- What a text needs before it is written, counted segment by segment: whether its bytes fit, and its first repeated variant.
use Rattle.std.specs.Prelude.{ℕ, ◌+◌, ◌≤◌, Bool, false, cond, [], ◌∷◌, ◌++◌, Result, Ok, Err, IfOk, leb, ltb, length}
use Rattle.text.specs.Text.{Segment, Text}
use Rattle.layout.specs.Bytes.{greatest_stretch}
use Rattle.layout.specs.Reading.{among}
use Rattle.layout.specs.Sizes.{first_segment, first_variant, first_letter}
use Rattle.vcf.specs.declared.survey.needed.Needed.{Needed}
use Rattle.text.specs.declared.refusal.Refusal.{Refusal}

-- that many bytes fit
abbrev pub within : ℕ → Bool
within b = leb b greatest_stretch

-- what a text needs, if it fits
abbrev pub Tally : Type 0
Tally = Result Needed Refusal

-- the text is too long
abbrev pub too_long : Tally
too_long = Err (record { number = 4; place = 0 })

-- that many bytes, segments and variants
abbrev pub needs : ℕ → ℕ → Result ℕ Refusal → Tally
needs b g v = Ok (record { bytes = b; segments = g; variants = v })

-- how many variants there are with one more, or that one is repeated, and its number
abbrev pub counted : Result ℕ Refusal → Bool → Result ℕ Refusal
counted (Ok v) again = cond again (Err (record { number = 8; place = v })) (Ok (v + 1))
counted (Err r) again = Err r

-- that many bytes more
abbrev pub grown : Tally → ℕ → Tally
grown (Ok t) n = cond (within (t.bytes + n)) (needs (t.bytes + n) t.segments t.variants) too_long
grown (Err r) n = Err r

-- one segment more: its variant count
abbrev pub segmented : Tally → Tally
segmented (Ok t) = needs t.bytes (t.segments + 1) t.variants
segmented (Err r) = Err r

abbrev pub opened : Tally → Tally
opened t = segmented (grown t first_variant)

-- one variant more of n letters, repeated or not: its length, then its letters
abbrev pub recounted : Tally → Bool → Tally
recounted (Ok t) again = needs t.bytes t.segments (counted t.variants again)
recounted (Err r) again = Err r

abbrev pub tallied : Tally → ℕ → Bool → Tally
tallied t n again = recounted (grown (grown t first_letter) n) again

-- n bases more, if there are any
abbrev pub spaced : Tally → ℕ → Tally
spaced t n = cond (ltb 0 n) (tallied (opened t) n false) t

-- the variants of a segment after those seen
unfoldable pub tally_in : Tally → Segment → Segment → Tally
tally_in t seen [] = t
tally_in t seen (v ∷ g) = tally_in (tallied t (length v) (among v seen)) (seen ++ (v ∷ [])) g

-- the segments of a text
unfoldable pub tally_text : Tally → Text → Tally
tally_text t [] = t
tally_text t (g ∷ T) = tally_text (tally_in (opened t) [] g) T

-- nothing but the segment count
abbrev pub nothing : Tally
nothing = needs first_segment 0 (Ok 0)

-- each segment and each variant has taken bytes
abbrev pub Sane : Tally → Type 0
Sane (Ok t) = (t.segments ≤ t.bytes) × IfOk t.variants (λ v. v ≤ t.bytes) × (t.bytes ≤ greatest_stretch)
Sane (Err r) = Unit {0}
