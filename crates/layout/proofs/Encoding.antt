-- What can be written is read back: the bytes of a text, or of a lone segment, are accepted and mean just that.
use Rattle.std.proofs.Common.{◌≡◌, ℕ, ◌+◌, ◌*◌, ◌<◌, ◌≤◌, Bool, true, false, not, ◌&&◌, ltb, leb, List, [], ◌∷◌, ◌++◌, length, get_or, refl, ap, ◌∙◌, ap₂, add-zero, arith, length-append, ltb-true, lt-ltb, le-leb, leb-true}
use borrow.Author.Tests.{not-true}
use lib.Seq.{take-length}
use Rattle.text.specs.Letter.{capital, meant, every}
use Rattle.text.proofs.Meanings.{capitals-letters, capitals-meant}
use Rattle.text.specs.Text.{Variant, Segment, Text}
use Rattle.text.specs.Refusal.{ok}
use Rattle.text.proofs.Truth.{and_both, and_left, and_right}
use Rattle.layout.specs.Bytes.{greatest_stretch, word, word_bytes}
use Rattle.layout.specs.Pieces.{letters_at, next_of, head_at, variants_at, most_in_stretch}
use Rattle.layout.specs.Reading.{among, value_of, formed, many, variant_at, segment_at, segments_of, whole_stretch, stretch_of, lone_segment, segment_of}
use Rattle.layout.specs.Encoding.{bytes_of, encode_variant, encode_segment, encode, distinct, all, writable_segment, writable}
use Rattle.layout.specs.Skips.{stepped, behind_segment}
use Rattle.layout.specs.Standing.{letters_from, standing_segment, segments_from, standing}
use Rattle.layout.proofs.Heads.{value-part}
use Rattle.layout.proofs.Frames.{open-counts, closed-sound, stretch-is}
use Rattle.layout.proofs.Stands.{Stands, stands-front, stands-back, stands-inside, stands_at, word_stands}
use Rattle.layout.proofs.Rows.{row-many, written_row}
use Rattle.layout.proofs.Lengths.{filled, filled-lengths}

-- variants that can stand after those seen
pub record Fresh (seen l : Segment) : Type 0 where
  pub letters : all (every capital) l ≡ true
  pub once : distinct seen l ≡ true

module _ (seen : Segment) (v : Variant) (l : Segment) (f : Fresh seen (v ∷ l)) where
  pub fresh-letters : every capital v ≡ true
  unfolding all
  fresh-letters = and_left (every capital v) (all (every capital) l) f.letters

  pub fresh-once : among v seen ≡ false
  unfolding distinct
  fresh-once = not-true (among v seen) (and_left (not (among v seen)) (distinct (seen ++ (v ∷ [])) l) f.once)

  pub fresh-rest : Fresh (seen ++ (v ∷ [])) l
  unfolding all distinct
  fresh-rest = record {
    letters = and_right (every capital v) (all (every capital) l) f.letters;
    once = and_right (not (among v seen)) (distinct (seen ++ (v ∷ [])) l) f.once;
  }

-- a segment that can be written has variants, and they can stand there
pub record Writable (g : Segment) : Type 0 where
  pub some : 0 < length g
  pub few : length g ≤ 255
  pub fresh : Fresh [] g

pub writable-segment : (g : Segment) → writable_segment g ≡ true → Writable g
unfolding writable_segment
writable-segment g w =
    let some : Bool = ltb 0 (length g) in
    let few : Bool = leb (length g) 255 in
    let letters : Bool = all (every capital) g in
    let three : (some && few && letters) ≡ true = and_left (some && few && letters) (distinct [] g) w in
    let two : (some && few) ≡ true = and_left (some && few) letters three in
    record {
      some = ltb-true 0 (length g) (and_left some few two);
      few = leb-true (length g) 255 (and_right some few two);
      fresh = record {
        letters = and_right (some && few) letters three;
        once = and_right (some && few && letters) (distinct [] g) w;
      };
    }

writable-filled : (t : Text) → all writable_segment t ≡ true → all filled t ≡ true
unfolding all
writable-filled [] w = refl
writable-filled (g ∷ t) w =
    and_both (filled g) (all filled t)
    (lt-ltb 0 (length g) (writable-segment g (and_left (writable_segment g) (all writable_segment t) w)).some)
    (writable-filled t (and_right (writable_segment g) (all writable_segment t) w))

module _ (s : List ℕ) (short : length s ≤ greatest_stretch) where
  variant-written :
      (seen : Segment) (v : Variant) (l : Segment) (at : ℕ) → Fresh seen (v ∷ l) → Stands s at (encode_variant v) →
      variant_at s seen at ≡ ok (record { value = v; next = at + length (encode_variant v) })
  unfolding variant_at formed head_at encode_variant word_bytes
  variant-written seen v l at f h =
      let fits : at + length (encode_variant v) ≤ length s = stands-inside s at (encode_variant v) h (omega arith) in
      let n : word s at ≡ length v = word_stands s at (length v) (omega arith) (stands-front s at (word_bytes (length v)) v h) in
      let letters : letters_at s at ≡ v = rw n (stands-back s at (word_bytes (length v)) v h) in
      let next : next_of s at ≡ at + length (encode_variant v) = omega arith in
      let value : value_of s at ≡ v = value-part s at ∙ ap meant letters ∙ capitals-meant v (fresh-letters seen v l f) in
      rw (
        value,
        letters,
        next,
        le-leb (at + length (encode_variant v)) (length s) fits,
        capitals-letters v (fresh-letters seen v l f),
        fresh-once seen v l f,
      )

  segment-written :
      (g : Segment) (at : ℕ) → writable_segment g ≡ true → Stands s at (encode_segment g) →
      segment_at s at ≡ ok (record { value = g; next = at + length (encode_segment g) })
  unfolding segment_at variants_at encode_segment
  segment-written g at w h =
      let r = writable-segment g w in
      let fits : at + length (encode_segment g) ≤ length s = stands-inside s at (encode_segment g) h (omega arith) in
      let inside : at < length s = omega arith in
      let count : get_or s at 0 ≡ length g = rw add-zero at (stands_at s at (encode_segment g) h 0 (omega arith)) in
      let row = written_row s (variant_at s) encode_variant Fresh variant-written fresh-rest g [] (at + 1) r.fresh
      (stands-back s at (length g ∷ []) (bytes_of encode_variant g) h) in
      let next : at + 1 + length (bytes_of encode_variant g) ≡ at + length (encode_segment g) = omega arith in
      rw (lt-ltb at (length s) inside, count, lt-ltb 0 (length g) r.some)
      (row-many (variant_at s) g [] (at + 1) _ row ∙ rw next)

  -- segments that can be written, one after another
  segments-written :
      (t : Text) → all writable_segment t ≡ true → Stands s 2 (bytes_of encode_segment t) →
      many (λ _. segment_at s) (length t) [] 2 ≡ ok (record { value = t; next = 2 + length (bytes_of encode_segment t) })
  unfolding all
  segments-written t w h =
      row-many (λ _. segment_at s) t [] 2 _
      (written_row s (λ _. segment_at s) encode_segment
      (λ _ l. all writable_segment l ≡ true)
      (λ _ g l at k. segment-written g at (and_left (writable_segment g) (all writable_segment l) k))
      (λ _ g l. and_right (writable_segment g) (all writable_segment l))
      t [] 2 w h)

-- a stretch whose segments are read up to its end is accepted
accepted :
    (s : List ℕ) (t : Text) (next : ℕ) → length s ≤ greatest_stretch → 2 ≤ length s → length t ≤ most_in_stretch → word s 0 ≡ length t →
    many (λ _. segment_at s) (length t) [] 2 ≡ ok (record { value = t; next = next }) → next ≡ length s → stretch_of s ≡ ok t
unfolding whole_stretch segments_of
accepted s t next short two few n segments e =
    stretch-is s short ∙ rw (open-counts s two, n, segments, closed-sound s next (length t) e few)

-- a text that can be written is what its bytes mean
pub stretch-of : (t : Text) → writable t ≡ true → stretch_of (encode t) ≡ ok t
unfolding writable encode word_bytes
stretch-of t w =
    let s : List ℕ = encode t in
    let good : all writable_segment t ≡ true = and_left (all writable_segment t) (leb (length s) greatest_stretch) w in
    let short : length s ≤ greatest_stretch =
    leb-true (length s) greatest_stretch (and_right (all writable_segment t) (leb (length s) greatest_stretch) w) in
    let room : 3 * length t ≤ length (bytes_of encode_segment t) = filled-lengths t (writable-filled t good) in
    let few : length t ≤ most_in_stretch = omega arith in
    let two : 2 ≤ length s = omega arith in
    let n : word s 0 ≡ length t =
    word_stands s 0 (length t) (omega arith) (stands-front s 0 (word_bytes (length t)) (bytes_of encode_segment t) (take-length s)) in
    let segments = segments-written s short t good (stands-back s 0 (word_bytes (length t)) (bytes_of encode_segment t) (take-length s)) in
    accepted s t (2 + length (bytes_of encode_segment t)) short two few n segments (omega arith)

-- its bytes stand for itself: the letters that stand there are its own
module _ (s : List ℕ) (short : length s ≤ greatest_stretch) where
  letters-encoded : (g : Segment) (at : ℕ) → Stands s at (bytes_of encode_variant g) → letters_from s (length g) at ≡ g
  unfolding letters_from bytes_of encode_variant word_bytes
  letters-encoded [] at h = refl
  letters-encoded (v ∷ g) at h =
      let front = stands-front s at (encode_variant v) (bytes_of encode_variant g) h in
      let fits : at + length (encode_variant v) ≤ length s = stands-inside s at (encode_variant v) front (omega arith) in
      let n : word s at ≡ length v = word_stands s at (length v) (omega arith) (stands-front s at (word_bytes (length v)) v front) in
      let letters : letters_at s at ≡ v = rw n (stands-back s at (word_bytes (length v)) v front) in
      let next : next_of s at ≡ at + length (encode_variant v) = omega arith in
      let rest = stands-back s at (encode_variant v) (bytes_of encode_variant g) h in
      ap₂ ◌∷◌ letters (rw next (letters-encoded g (at + length (encode_variant v)) rest))

  variants-behind : (g : Segment) (at : ℕ) → Stands s at (bytes_of encode_variant g)
      → stepped (next_of s) (length g) at ≡ at + length (bytes_of encode_variant g)
  unfolding stepped bytes_of encode_variant word_bytes
  variants-behind [] at h = omega arith
  variants-behind (v ∷ g) at h =
      let front = stands-front s at (encode_variant v) (bytes_of encode_variant g) h in
      let fits : at + length (encode_variant v) ≤ length s = stands-inside s at (encode_variant v) front (omega arith) in
      let n : word s at ≡ length v = word_stands s at (length v) (omega arith) (stands-front s at (word_bytes (length v)) v front) in
      let next : next_of s at ≡ at + length (encode_variant v) = omega arith in
      let rest = stands-back s at (encode_variant v) (bytes_of encode_variant g) h in
      ap (stepped (next_of s) (length g)) next
      ∙ omega (arith, variants-behind g (at + length (encode_variant v)) rest, length-append (encode_variant v) (bytes_of encode_variant g))

  segments-encoded : (t : Text) (at : ℕ) → Stands s at (bytes_of encode_segment t) → segments_from s (length t) at ≡ t
  unfolding segments_from bytes_of encode_segment
  segments-encoded [] at h = refl
  segments-encoded (g ∷ t) at h =
      let front = stands-front s at (encode_segment g) (bytes_of encode_segment t) h in
      let count : get_or s at 0 ≡ length g = rw add-zero at (stands_at s at (encode_segment g) front 0 (omega arith)) in
      let variants = stands-back s at (length g ∷ []) (bytes_of encode_variant g) front in
      let own : standing_segment s at ≡ g = rw count (letters-encoded g (at + 1) variants) in
      let next : behind_segment s at ≡ at + length (encode_segment g) = rw count (variants-behind g (at + 1) variants ∙ omega arith) in
      let rest = stands-back s at (encode_segment g) (bytes_of encode_segment t) h in
      ap₂ ◌∷◌ own (rw next (segments-encoded t (at + length (encode_segment g)) rest))

pub standing-encoded : (t : Text) → writable t ≡ true → standing (encode t) ≡ t
unfolding writable encode word_bytes standing
standing-encoded t w =
    let s : List ℕ = encode t in
    let good : all writable_segment t ≡ true = and_left (all writable_segment t) (leb (length s) greatest_stretch) w in
    let short : length s ≤ greatest_stretch =
    leb-true (length s) greatest_stretch (and_right (all writable_segment t) (leb (length s) greatest_stretch) w) in
    let room : 3 * length t ≤ length (bytes_of encode_segment t) = filled-lengths t (writable-filled t good) in
    let n : word s 0 ≡ length t =
    word_stands s 0 (length t) (omega arith) (stands-front s 0 (word_bytes (length t)) (bytes_of encode_segment t) (take-length s)) in
    rw n (segments-encoded s short t 2 (stands-back s 0 (word_bytes (length t)) (bytes_of encode_segment t) (take-length s)))

-- so is a lone segment
pub segment-of : (g : Segment) → writable_segment g ≡ true → length (encode_segment g) ≤ greatest_stretch → segment_of (encode_segment g) ≡ ok g
unfolding segment_of lone_segment
segment-of g w l =
    let s : List ℕ = encode_segment g in
    let e : 0 + length s ≡ length s = omega arith in
    rw (le-leb (length s) greatest_stretch l, segment-written s l g 0 w (take-length s), closed-sound s (0 + length s) 1 e (omega arith))
