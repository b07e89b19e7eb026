-- Reading on from a place, a segment number and a variant number: the first variant at or after it in text order.
use Rattle.std.specs.Prelude.{ℕ, ◌+◌, cond, List, [], ltb, length, take, get_or}
use Rattle.text.specs.Text.{Variant, Text, segment, total}
use Rattle.text.specs.Refusal.{Outcome, ok, refused}
use Rattle.layout.specs.Bytes.{part}
use Rattle.layout.specs.Encoding.{encode_variant, encode_segment}
use Rattle.layout.specs.Reading.{stretch_of}
use Rattle.layout.specs.Sizes.{first_segment, first_variant, first_letter}

-- variant v of segment j
abbrev pub variant : Text → ℕ → ℕ → Variant
variant T j v = get_or (segment T j) v []

-- where the letters of variant v of segment j stand in the text's bytes
unfoldable pub start_of : Text → ℕ → ℕ → ℕ
start_of T j v =
    first_segment + total (λ g. length (encode_segment g)) (take j T)
    + (first_variant + total (λ s. length (encode_variant s)) (take v (segment T j)))
    + first_letter

-- what is found: a variant's letters, from where and how many, or the end
pub data Found : Type 0 where
  found : ℕ → ℕ → Found
  end : Found

-- what a read answers, with the place that goes with it
pub record Reading : Type 0 where
  pub answer : Outcome Found
  pub segment : ℕ
  pub variant : ℕ

-- variant v of segment j is handed out, with the place one variant number after it
abbrev pub handed : Text → ℕ → ℕ → Reading
handed T j v =
    record { answer = ok (found (start_of T j v) (length (variant T j v))); segment = j; variant = v + 1 }

-- the first variant at or after variant v of segment j; after the last one the end, with the place unchanged
unfoldable pub read_from : Text → ℕ → ℕ → Reading
read_from T j v =
    cond (ltb v (length (segment T j))) (handed T j v)
    (cond (ltb (j + 1) (length T)) (handed T (j + 1) 0) (record { answer = ok end; segment = j; variant = v }))

-- the answer of a read; a refused one keeps its place
abbrev pub read_in : Outcome Text → ℕ → ℕ → Reading
read_in (ok T) j v = read_from T j v
read_in (refused n p) j v = record { answer = refused n p; segment = j; variant = v }

unfoldable pub reading : List ℕ → ℕ → ℕ → Reading
reading s j v = read_in (stretch_of s) j v

-- the letters that go with an answer: empty for the end and a refusal
abbrev pub part_of : List ℕ → Outcome Found → List ℕ
part_of s (ok (found start len)) = part s start len
part_of s (ok end) = []
part_of s (refused n p) = []
