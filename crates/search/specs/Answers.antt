-- What a search and a feed answer, in document 01's numbers and values.
use Rattle.std.specs.Prelude.{ℕ, ◌≤◌, ◌≡◌, Bool, false, not, cond, List, eqb, leb, length, take, Result, Ok, Err}
use Rattle.text.specs.Text.{Text, total, size}
use Rattle.text.specs.State.{is_state, fresh, next, ends, run, marks_from, marks}
use Rattle.text.specs.Refusal.{Outcome, ok, refused, demand, after, pattern, Answer, answer}
use Rattle.text.specs.Strand.{on_strand}
use Rattle.text.specs.declared.strand.Strand.{Strand}
use Rattle.layout.specs.Bytes.{word, over}
use Rattle.layout.specs.Pieces.{fits, most_in_stretch}
use Rattle.layout.specs.Reading.{lone_segment, whole_stretch, stretch_of}
use Rattle.layout.specs.Walk.{begun, most_ahead}
use Rattle.search.specs.declared.state.Fed.{Fed}
use Rattle.search.specs.declared.state.Sought.{Sought}
use Rattle.search.specs.declared.searching.Searched.{Searched}
use Rattle.search.specs.declared.marking.Marked.{Marked}
use Rattle.search.specs.declared.state.State.{State}
use Rattle.text.specs.declared.refusal.Refusal.{Refusal}

-- what is asked before o of a pattern, of the bytes that are searched, and of a state: 1, 2, 3, 4, 17
unfoldable pub entering : {A : Type 0} → List ℕ → ℕ → List ℕ → Outcome A → Outcome A
entering P st s o = pattern P (fits s (demand (is_state (length P) st) 17 0 o))

-- a text whose marks go into a buffer of that many bytes: 10
unfoldable pub into : ℕ → Outcome Text → Outcome Text
into room o = after o λ t. demand (leb (length t) room) 10 0 (ok t)

-- a stretch whose marks go into a buffer of that many bytes
abbrev pub stretch_into : List ℕ → ℕ → Outcome Text
stretch_into s room = into room (stretch_of s)

-- the same of bytes whose length was asked before
abbrev pub whole_into : List ℕ → ℕ → Outcome Text
whole_into s room = into room (whole_stretch s)

-- a search: 1, 2, 3, those of the stretch, then 10
unfoldable pub searching : List ℕ → List ℕ → ℕ → Outcome Text
searching P s room = pattern P (stretch_into s room)

-- a search from a state: 1, 2, 3, 4, 17, those of the stretch, then 10
unfoldable pub seeking : List ℕ → ℕ → List ℕ → ℕ → Outcome Text
seeking P st s room = entering P st s (stretch_into s room)

-- what a search from a state tells of a text: its segment count, its size, the number of ones among its marks, and the state after it
pub record Seen : Type 0 where
  pub segments : ℕ
  pub size : ℕ
  pub ends : ℕ
  pub state : ℕ

unfoldable pub seen_from : List ℕ → ℕ → Text → Seen
seen_from P st t =
    record { segments = length t; size = size t; ends = total (λ x. x) (marks_from P st t); state = run P st t }

abbrev pub told_sought : Sought → Outcome Seen
told_sought (Sought.Marked segments size ends state) =
    ok (record { segments = segments; size = size; ends = ends; state = state.bits })
told_sought (Sought.Refused r) = refused r.number r.place

-- the same of a result
abbrev pub told_marked : Result (Marked State) Refusal → Outcome Seen
told_marked (Ok m) = ok (record { segments = m.segments; size = m.size; ends = m.ends; state = m.state.bits })
told_marked (Err r) = refused r.number r.place

-- what a search tells of a text, from the fresh state
pub record Sums : Type 0 where
  pub segments : ℕ
  pub size : ℕ
  pub ends : ℕ

abbrev pub sums : Seen → Sums
sums x = record { segments = x.segments; size = x.size; ends = x.ends }

-- of one strand or of both
abbrev pub sums_marked : {S : Type 0} → Marked S → Sums
sums_marked m = record { segments = m.segments; size = m.size; ends = m.ends }

unfoldable pub sums_of : List ℕ → Text → Sums
sums_of P t = sums (seen_from P fresh t)

abbrev pub told_searched : Searched → Outcome Sums
told_searched (Searched.Marked segments size ends) = ok (record { segments = segments; size = size; ends = ends })
told_searched (Searched.Refused r) = refused r.number r.place

-- the same in numbers
abbrev pub zero_sums : Sums
zero_sums = record { segments = 0; size = 0; ends = 0 }

abbrev pub answer_searched : Searched → Answer Sums
answer_searched r = answer zero_sums (told_searched r)

-- a buffer that holds the marks of an accepted text in front, as f gives them; after a refusal it may hold anything
abbrev pub MarksOf : (Text → List ℕ) → Outcome Text → List ℕ → Type 0
MarksOf f o buffer = (t : Text) → o ≡ ok t → take (length t) buffer ≡ f t

-- what a search leaves in the caller's buffer: the first n of the marks that it found, where there is room for them
abbrev pub handed : ℕ → List ℕ → List ℕ → List ℕ
handed n found out = cond (leb n (length out)) (over out 0 (take n found)) out

-- a stretch that has no more segments than the greatest buffer has marks, by the count that it states or by its bytes
abbrev pub Markable : List ℕ → Type 0
Markable s = most_ahead s (begun (word s 0) 2) ≤ most_in_stretch

-- what a search writes of a text
abbrev pub marked : List ℕ → Text → List ℕ
marked P t = marks P t

-- the next state, and whether an occurrence ends there
pub record Next : Type 0 where
  pub state : ℕ
  pub ends : Bool

-- a step of P over a lone segment
abbrev pub stepped : List ℕ → ℕ → List ℕ → Outcome Next
stepped P st s = after (lone_segment s) λ g. ok (record { state = next P st g; ends = ends P st g })

-- what a run over a lone segment says of it
abbrev pub next_of : Seen → Next
next_of x = record { state = x.state; ends = not (eqb x.ends 0) }

-- a feed of the pattern as a strand reads it: 1, 2, 3 of the pattern as given, 4, 17, then 5 to 9
unfoldable pub feeding : List ℕ → Strand → ℕ → List ℕ → Outcome Next
feeding P strand st s = entering P st s (stepped (on_strand strand P) st s)

abbrev pub told_fed : Fed → Outcome Next
told_fed (Fed.Next state ends) = ok (record { state = state.bits; ends = ends })
told_fed (Fed.Refused r) = refused r.number r.place

-- the same in numbers
abbrev pub zero_next : Next
zero_next = record { state = 0; ends = false }

abbrev pub answer_fed : Fed → Answer Next
answer_fed r = answer zero_next (told_fed r)
