-- The search on both strands at once: two words in one letter loop, and the union of what the strands mark.
use Rattle.std.specs.Prelude.{ℕ, max, List, [], ◌∷◌, length, drop, Result, Ok, Err}
use Rattle.text.specs.Text.{Text, total, size}
use Rattle.text.specs.State.{is_state, run, marks_from, marks}
use Rattle.text.specs.Refusal.{Outcome, ok, refused, demand}
use Rattle.text.specs.Strand.{opposite}
use Rattle.search.specs.Answers.{Sums, entering, stretch_into}
use Rattle.search.specs.Method.{Founded, Tools}
use Rattle.search.specs.declared.segment.Passed.{Passed}
use Rattle.search.specs.declared.both.SoughtBoth.{SoughtBoth}
use Rattle.search.specs.declared.both.segment.PassedBoth.{PassedBoth}
use Rattle.search.specs.declared.both.words.Pair.{Pair}
use Rattle.search.specs.declared.marking.Marked.{Marked}
use Rattle.text.specs.declared.refusal.Refusal.{Refusal}

-- two rows of marks united: 1 where either row has it
unfoldable pub united : List ℕ → List ℕ → List ℕ
united [] l = []
united (a ∷ k) [] = []
united (a ∷ k) (b ∷ l) = max a b ∷ united k l

-- the marks of a search that marks a segment when either strand ends there: the union of what the two strands mark
unfoldable pub either_marks : List ℕ → Text → List ℕ
either_marks P t = united (marks P t) (marks (opposite P) t)

-- what it tells of a text: a segment in which both strands end is one of the ones
unfoldable pub either_sums : List ℕ → Text → Sums
either_sums P t = record { segments = length t; size = size t; ends = total (λ x. x) (either_marks P t) }

-- from a state of each strand on, segment by segment: 1 where an occurrence ends on either
unfoldable pub either_from : List ℕ → ℕ → ℕ → Text → List ℕ
either_from P st re t = united (marks_from P st t) (marks_from (opposite P) re t)

-- what is asked before o of a pattern, of the bytes that are searched, and of a state of each strand: 1, 2, 3, 4, 17
unfoldable pub entering_both : {A : Type 0} → List ℕ → ℕ → ℕ → List ℕ → Outcome A → Outcome A
entering_both P st re s o = entering P st s (demand (is_state (length P) re) 17 0 o)

-- a search on both strands from a state of each: 1, 2, 3, 4, 17, those of the stretch, then 10
unfoldable pub seeking_both : List ℕ → ℕ → ℕ → List ℕ → ℕ → Outcome Text
seeking_both P st re s room = entering_both P st re s (stretch_into s room)

-- what it tells of a text: its segment count, its size, the number of ones among its marks, and the states after it
pub record SeenBoth : Type 0 where
  pub segments : ℕ
  pub size : ℕ
  pub ends : ℕ
  pub given : ℕ
  pub opposite : ℕ

unfoldable pub seen_both : List ℕ → ℕ → ℕ → Text → SeenBoth
seen_both P st re t =
    record {
      segments = length t;
      size = size t;
      ends = total (λ x. x) (either_from P st re t);
      given = run P st t;
      opposite = run (opposite P) re t;
    }

abbrev pub told_both : SoughtBoth → Outcome SeenBoth
told_both (SoughtBoth.Marked segments size ends state) =
    ok (record { segments = segments; size = size; ends = ends; given = state.given; opposite = state.opposite })
told_both (SoughtBoth.Refused r) = refused r.number r.place

-- the same of a result
abbrev pub told_marked_both : Result (Marked Pair) Refusal → Outcome SeenBoth
told_marked_both (Ok m) =
    ok (record { segments = m.segments; size = m.size; ends = m.ends; given = m.state.given; opposite = m.state.opposite })
told_marked_both (Err r) = refused r.number r.place

-- without the states
abbrev pub sums_both : SeenBoth → Sums
sums_both x = record { segments = x.segments; size = x.size; ends = x.ends }

-- every second entry of a list, from the first on
unfoldable pub evens : List ℕ → List ℕ
evens [] = []
evens (a ∷ []) = a ∷ []
evens (a ∷ (b ∷ l)) = a ∷ evens l

-- every second entry of a list, from the second on
unfoldable pub odds : List ℕ → List ℕ
odds l = evens (drop 1 l)

-- a pattern of 1 to 64 bases with its letter vectors
abbrev pub Founds : List ℕ → List ℕ → Type 0
Founds P masks = Founded P masks

-- and with the table of letters
abbrev pub Vectors : List ℕ → List ℕ → List ℕ → Type 0
Vectors P masks classes = Tools P masks classes

-- what a step over a segment on both strands says of the strand as given, and of the opposite one
abbrev pub passed_given : Result PassedBoth Refusal → Result Passed Refusal
passed_given (Ok p) = Ok (record { next = p.next; size = p.size; state = record { bits = p.state.given }; ends = p.given })
passed_given (Err r) = Err r

abbrev pub passed_opposite : Result PassedBoth Refusal → Result Passed Refusal
passed_opposite (Ok p) = Ok (record { next = p.next; size = p.size; state = record { bits = p.state.opposite }; ends = p.opposite })
passed_opposite (Err r) = Err r
