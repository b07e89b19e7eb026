-- What the C forms answer, and what they leave in the lent block.
use Rattle.std.specs.Prelude.{ℕ, zero, suc, ◌+◌, ◌*◌, ◌/◌, ◌%◌, cond, List, [], ◌∷◌, ◌++◌, leb, length}
use Rattle.text.specs.Text.{Text}
use Rattle.text.specs.Refusal.{Outcome, ok, refused, demand, after}
use Rattle.text.specs.State.{marks_from}
use Rattle.text.specs.Strand.{on_strand}
use Rattle.text.specs.declared.strand.Strand.{Strand}
use Rattle.layout.specs.Bytes.{left_by}
use Rattle.search.specs.Answers.{Sums, Seen, Next, searching, seeking, seen_from, feeding}
use Rattle.search.specs.First.{Hit, Stop, stop_of, firsting}

-- one number answers: the refusal number plus 256 times the place; accepted is 0
abbrev pub coded : {A : Type 0} → Outcome A → ℕ
coded (ok a) = 0
coded (refused n p) = n + 256 * p

-- a number in k bytes, low byte first
unfoldable pub low_first : ℕ → ℕ → List ℕ
low_first zero n = []
low_first (suc k) n = n % 256 ∷ low_first k (n / 256)

-- the number that bytes stand for, low byte first
unfoldable pub low_value : List ℕ → ℕ
low_value [] = 0
low_value (b ∷ l) = b + 256 * low_value l

-- the block of a search: segment count, size and number of ones, 8 bytes each
unfoldable pub sums_block : Sums → List ℕ
sums_block x = low_first 8 x.segments ++ low_first 8 x.size ++ low_first 8 x.ends

-- the block of a search from a state: segment count, size, number of ones, and the state after the stretch
unfoldable pub seen_block : Seen → List ℕ
seen_block x = low_first 8 x.segments ++ low_first 8 x.size ++ low_first 8 x.ends ++ low_first 8 x.state

-- the block of a feed: the next state, and 1 where an occurrence ends
unfoldable pub next_block : Next → List ℕ
next_block x = low_first 8 x.state ++ low_first 8 (cond x.ends 1 0)

-- the block of the first hit: the segment or "none", and the state after the stretch, 0 where something ends
unfoldable pub stop_block : Stop → List ℕ
stop_block x = low_first 8 x.segment ++ low_first 8 x.state

-- what a form asks last: that its results, of that many bytes, have room in the block; 10
abbrev pub with_room : {A : Type 0} → ℕ → ℕ → Outcome A → Outcome A
with_room bytes block o = after o λ a. demand (leb bytes block) 10 0 (ok a)

-- two results that go into a block of that many bytes
abbrev pub two_into : ℕ → ℕ → ℕ → Outcome (List ℕ)
two_into first second block = with_room 16 block (ok (low_first 8 first ++ low_first 8 second))

-- a search with a mark buffer and a result block of that many bytes: 10 also where the block is too short
unfoldable pub searching_into : List ℕ → List ℕ → ℕ → ℕ → Outcome Text
searching_into P s marks block = with_room 24 block (searching P s marks)

-- its answer, and what it leaves in the two: the marks of a text, and what is summed up of it
abbrev pub search_answer : List ℕ → List ℕ → List ℕ → List ℕ → ℕ
search_answer P s marks block = coded (searching_into P s (length marks) (length block))

abbrev pub search_marks : (Text → List ℕ) → List ℕ → List ℕ → List ℕ → List ℕ → List ℕ
search_marks marking P s marks block = left_by marking (searching_into P s (length marks) (length block)) marks

abbrev pub search_block : (Text → Sums) → List ℕ → List ℕ → List ℕ → List ℕ → List ℕ
search_block summing P s marks block = left_by (λ t. sums_block (summing t)) (searching_into P s (length marks) (length block)) block

-- a search from a state with a mark buffer and a result block of that many bytes: 10 also where the block is too short
unfoldable pub seeking_into : List ℕ → ℕ → List ℕ → ℕ → ℕ → Outcome Text
seeking_into P st s marks block = with_room 32 block (seeking P st s marks)

-- its answer, and what it leaves in the two
abbrev pub from_answer : List ℕ → ℕ → List ℕ → List ℕ → List ℕ → ℕ
from_answer P st s marks block = coded (seeking_into P st s (length marks) (length block))

abbrev pub from_marks : List ℕ → Strand → ℕ → List ℕ → List ℕ → List ℕ → List ℕ
from_marks P strand st s marks block = left_by (marks_from (on_strand strand P) st) (seeking_into P st s (length marks) (length block)) marks

abbrev pub from_block : List ℕ → Strand → ℕ → List ℕ → List ℕ → List ℕ → List ℕ
from_block P strand st s marks block =
    left_by (λ t. seen_block (seen_from (on_strand strand P) st t)) (seeking_into P st s (length marks) (length block)) block

-- a feed with a result block of that many bytes: 10 is asked last
unfoldable pub feeding_into : List ℕ → Strand → ℕ → List ℕ → ℕ → Outcome Next
feeding_into P strand st s block = with_room 16 block (feeding P strand st s)

-- its answer, and what it leaves in the block
abbrev pub feed_answer : List ℕ → Strand → ℕ → List ℕ → List ℕ → ℕ
feed_answer P strand st s block = coded (feeding_into P strand st s (length block))

abbrev pub feed_block : List ℕ → Strand → ℕ → List ℕ → List ℕ → List ℕ
feed_block P strand st s block = left_by next_block (feeding_into P strand st s (length block)) block

-- the first hit with a result block of that many bytes: 10 is asked last, of a hit too
unfoldable pub firsting_into : List ℕ → Strand → ℕ → List ℕ → ℕ → Outcome Hit
firsting_into P strand st s block = with_room 16 block (firsting P strand st s)

-- its answer, and what it leaves in the block
abbrev pub first_answer : List ℕ → Strand → ℕ → List ℕ → List ℕ → ℕ
first_answer P strand st s block = coded (firsting_into P strand st s (length block))

abbrev pub first_block : List ℕ → Strand → ℕ → List ℕ → List ℕ → List ℕ
first_block P strand st s block = left_by (λ h. stop_block (stop_of h)) (firsting_into P strand st s (length block)) block
