-- The answers of the library's calls as the tests compare them: number, place, and up to three of the values.
use Rattle.std.specs.Prelude.{ℕ, ◌%◌, Bool, cond, ◌&&◌, List, ◌==◌, slice_index}
use Rattle.text.specs.Refusal.{Answer as Said}
use Rattle.text.specs.Compare.{same}
use Rattle.text.specs.Card.{Row}
use Rattle.stretch.specs.Answers.{answer_checked, answer_got, Handed}
use Rattle.stretch.specs.declared.checking.Sum.{Sum}
use Rattle.stretch.specs.Answers.{answer_written}
use Rattle.stretch.specs.declared.checking.Checked.{Checked}
use Rattle.stretch.specs.declared.writing.Written.{Written}
use Rattle.stretch.specs.declared.reading.Got.{Got}
use Rattle.search.specs.Answers.{Sums, answer_searched, Next, answer_fed}
use Rattle.search.specs.declared.searching.Searched.{Searched}
use Rattle.search.specs.declared.state.Fed.{Fed}
use Rattle.card.specs.Answers.{answer_asked}
use Rattle.card.specs.declared.answers.Asked.{Asked}
use Rattle.card.specs.declared.answers.Made.{Made}
use Rattle.watch.specs.Watching.{Pointed, answer_found, answer_listed}
use Rattle.watch.specs.declared.answers.Found.{Found}
use Rattle.watch.specs.declared.answers.Listed.{Listed}
use Rattle.test_tally.specs.declared.answers.Answer.{Answer}

-- a refusal: zeros beside number and place
abbrev pub refused_as : ℕ → ℕ → Answer
refused_as n p = record { number = n; place = p; first = 0; second = 0; third = 0 }

-- an accepted call with its values
abbrev pub told_as : ℕ → ℕ → ℕ → Answer
told_as a b c = record { number = 0; place = 0; first = a; second = b; third = c }

-- an answer in numbers, with three of its values
abbrev pub said_as : {A : Type 0} → (A → ℕ) → (A → ℕ) → (A → ℕ) → Said A → Answer
said_as f g h x = record { number = x.number; place = x.place; first = f x.value; second = g x.value; third = h x.value }

-- the same five numbers
unfoldable pub alike : Answer → Answer → Bool
alike a b =
    (a.number == b.number)
    && (a.place == b.place && (a.first == b.first && (a.second == b.second && a.third == b.third)))

-- an answer beside a buffer; 100 at 0, which no call answers, where the buffer does not hold what is wanted
abbrev pub held_as : Answer → List ℕ → List ℕ → Answer
held_as a buffer wanted = cond (same buffer wanted) a (refused_as 100 0)

-- a check: segment count and size
abbrev pub checked_as : Checked → Answer
checked_as r = said_as (λ (x : Sum). x.segments) (λ (x : Sum). x.size) (λ (x : Sum). 0) (answer_checked r)

-- a write: how many bytes
abbrev pub written_as : Written → Answer
written_as r = said_as (λ (n : ℕ). n) (λ (n : ℕ). 0) (λ (n : ℕ). 0) (answer_written r)

-- a read: where the part starts, and the place that goes with it
abbrev pub read_as : Got → Answer
read_as r = said_as (λ (x : Handed). x.start) (λ (x : Handed). x.segment) (λ (x : Handed). x.variant) (answer_got r)

-- a read that is to find that many letters; 100 at 1, which no call answers, where it finds a variant of another length
abbrev pub got_as : Got → ℕ → Answer
got_as (Got.Variant start len j v) n = cond (len == n) (read_as (Got.Variant start len j v)) (refused_as 100 1)
got_as (Got.End j v) n = read_as (Got.End j v)
got_as (Got.Refused r j v) n = read_as (Got.Refused r j v)

-- a search: segment count, size and number of ones
abbrev pub searched_as : Searched → Answer
searched_as r = said_as (λ (x : Sums). x.segments) (λ (x : Sums). x.size) (λ (x : Sums). x.ends) (answer_searched r)

-- a feed: the next state, and 1 where an occurrence ends
abbrev pub fed_as : Fed → Answer
fed_as r = said_as (λ (x : Next). x.state) (λ (x : Next). cond x.ends 1 0) (λ (x : Next). 0) (answer_fed r)

-- what a watch list finds: the label, and the first ending segment
abbrev pub found_as : Found → Answer
found_as r = said_as (λ (x : Pointed). x.label) (λ (x : Pointed). x.segment) (λ (x : Pointed). 0) (answer_found r)

-- whether its records were marked
abbrev pub listed_as : Listed → Answer
listed_as r = said_as (λ (x : Unit {0}). 0) (λ (x : Unit {0}). 0) (λ (x : Unit {0}). 0) (answer_listed r)

-- what a card tells of a state: the state after, and the first end
abbrev pub asked_as : Asked → Answer
asked_as r = said_as (λ (x : Row). x.exit) (λ (x : Row). x.first) (λ (x : Row). 0) (answer_asked r)

-- a card at row q modulo 64: the row's exit and first end, and the segment count
abbrev pub row_as : Made → ℕ → Answer
row_as r q =
    record {
      number = r.refusal.number;
      place = r.refusal.place;
      first = slice_index r.card.exits (q % 64);
      second = slice_index r.card.firsts (q % 64);
      third = r.card.segments;
    }
