-- Laws of writing the bytes of a text: its segment count, then its segments one after another.
use Prim.Native.Nat.{ℕ, ◌+◌, ◌<◌, ◌≤◌}
use native.Mathlib.Omega.{arith}
use mathlib.Core.Path.{◌≡◌, ap, ◌∙◌}
use mathlib.Core.List.{List, ◌++◌}
use lib.ListN.{length, get_or, drop, length-append, drop_of_length-le}
use Rattle.layout.specs.Bytes.{word_bytes, over}
use Rattle.layout.specs.Encoding.{bytes_of, encode_segment, encode}
use Rattle.layout.specs.Sizes.{first_segment, text_bytes}
use Rattle.writer.specs.Cuts.{cut, sum_from, pieces}
use Rattle.writer.specs.Writing.{given, Matching, needed}
use Rattle.writer.proofs.Cuts.{length_cut}
use Rattle.writer.proofs.Texts.{Matched, matched-none, matched-within, matched-more, given-first, segment-size, needed-is}
use Rattle.layout.proofs.Overs.{over-over, Emitted, emitted-none, emitted-room, emitted-more, emitted-end}

-- the bytes of the segments that are given
abbrev pub segment_bytes : List ℕ → List ℕ → List ℕ → List ℕ
segment_bytes letters lengths counts = bytes_of encode_segment (given letters lengths counts)

-- j segments are written over d, after the segment count; the next one begins with variant v and letter `at`, where the text of those
-- before it would end
pub record SegmentsPut (letters lengths counts d out : List ℕ) (v at j : ℕ) : Type 0 where
  pub matched : Matched letters lengths counts j v at
  pub emitted :
      Emitted d first_segment (segment_bytes letters lengths counts) out (text_bytes at v j)
      (segment_bytes (drop at letters) (drop v lengths) (drop j counts))

pub segments-none :
    {letters lengths counts : List ℕ} (d : List ℕ) → Matching letters lengths counts → needed letters lengths counts ≤ length d →
    SegmentsPut letters lengths counts d d 0 0 0
unfolding encode word_bytes
segments-none {letters} {lengths} {counts} d m l =
    let room : first_segment + length (segment_bytes letters lengths counts) ≤ length d = omega (arith, needed-is m) in
    record { matched = matched-none m; emitted = emitted-none d first_segment (segment_bytes letters lengths counts) room }

module _ {letters lengths counts d out : List ℕ} {v at j : ℕ} (s : SegmentsPut letters lengths counts d out v at j) where
  -- the next segment
  module _ (l : j < length counts) where
    abbrev n : ℕ
    n = get_or counts j 0

    abbrev own : List ℕ
    own = encode_segment (pieces letters lengths v at n)

    abbrev behind : List ℕ
    behind = segment_bytes (drop (at + sum_from lengths v n) letters) (drop (v + n) lengths) (drop (j + 1) counts)

    splits : segment_bytes (drop at letters) (drop v lengths) (drop j counts) ≡ own ++ behind
    unfolding bytes_of
    splits = ap (bytes_of encode_segment) (given-first s.matched l)

    pub segments-room : text_bytes at v j + length own ≤ length out
    segments-room = omega (arith, emitted-room s.emitted, ap length splits, length-append own behind)

    pub segments-more :
        {after : List ℕ} {next m : ℕ} → m ≡ n → next ≡ at + sum_from lengths v n → after ≡ over out (text_bytes at v j) own →
        SegmentsPut letters lengths counts d after (v + m) next (j + 1)
    segments-more e f w =
        let size = segment-size letters (matched-within s.matched l) in
        let place : text_bytes (at + sum_from lengths v n) (v + n) (j + 1) ≡ text_bytes at v j + length own = omega arith in
        rw (e, f) record { matched = matched-more s.matched l; emitted = emitted-more s.emitted own behind splits w place }

  pub segments-end : length counts ≤ j → out ≡ over d first_segment (segment_bytes letters lengths counts)
  unfolding bytes_of given cut
  segments-end l = emitted-end s.emitted (rw (drop_of_length-le counts l))

-- a text is its segment count and then its segments
pub text-over :
    (letters lengths counts d : List ℕ) {mid out : List ℕ} → first_segment ≤ length d → mid ≡ over d 0 (word_bytes (length counts)) →
    out ≡ over mid first_segment (segment_bytes letters lengths counts) → out ≡ over d 0 (encode (given letters lengths counts))
unfolding encode given word_bytes
text-over letters lengths counts d l e f =
    let segments = length_cut counts (cut lengths letters) in
    f ∙ rw (e, segments) (over-over d 0 (word_bytes (length counts)) l (segment_bytes letters lengths counts))
