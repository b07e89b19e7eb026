-- What this crate proves of its calls, over all inputs.
use Rattle.std.proofs.Common.{Option, None, Some, ◌≡◌, ℕ, ◌+◌, ◌<◌, ◌≤◌, true, false, cond, leb, [], ◌∷◌, ◌++◌, length, sym, refl, ap, ◌∙◌, arith, length-append, leb-false, leb-true}
use Rattle.text.specs.Text.{Segment, Text}
use Rattle.layout.specs.Bytes.{word_bytes, greatest_stretch}
use Rattle.layout.specs.Encoding.{bytes_of, encode_segment, encode}
use Rattle.layout.proofs.Rows.{bytes-append}
use Rattle.pool_files.specs.Room.{nothing, with_record}
use Rattle.pool_files.specs.declared.held.Held.{Held}
-- building from the lines that touch a window is building from the whole file
pub use Rattle.pool_files.proofs.Touching.{touching-builds}
-- a word that is compared with a name byte by byte is the name exactly when all of it matches
pub use Rattle.pool_files.proofs.Names.{matched-is, name-matched}

-- the bytes of a text with one segment more
more-segments : (T : Text) (g : Segment) → length (encode (T ++ (g ∷ []))) ≡ length (encode T) + length (encode_segment g)
unfolding encode word_bytes bytes_of
more-segments T g = rw (bytes-append encode_segment T (g ∷ [])) (simp length-append (omega arith))

-- what a stretch holds counts the bytes of its text: with a record's segment more it holds the text with that segment, or else that text
-- has more bytes than a stretch
abbrev pub Counted : Option Held → Text → Type 0
Counted (Some k) T = (k.bytes ≡ length (encode T)) × (length (encode T) ≤ greatest_stretch)
Counted None T = greatest_stretch < length (encode T)

-- a stretch of no segments has the bytes that are counted
pub counted-nothing : nothing.bytes ≡ length (encode [])
unfolding encode word_bytes bytes_of
counted-nothing = refl

pub counted-record :
    (h : Held) (T : Text) (g : Segment) →
    h.bytes ≡ length (encode T) →
    Counted (with_record h (length (encode_segment g))) (T ++ (g ∷ []))
unfolding with_record
counted-record h T g e = by-room (leb (h.bytes + length (encode_segment g)) greatest_stretch) refl
  where
    sum : h.bytes + length (encode_segment g) ≡ length (encode (T ++ (g ∷ [])))
    sum = ap (λ (n : ℕ). n + length (encode_segment g)) e ∙ sym (more-segments T g)

    by-room : (b : _) → leb (h.bytes + length (encode_segment g)) greatest_stretch ≡ b →
        Counted (cond b (Some (record { bytes = h.bytes + length (encode_segment g); running = false })) None) (T ++ (g ∷ []))
    by-room true l = (sum, omega (arith, sum, leb-true (h.bytes + length (encode_segment g)) greatest_stretch l))
    by-room false l = omega (arith, sum, leb-false (h.bytes + length (encode_segment g)) greatest_stretch l)
