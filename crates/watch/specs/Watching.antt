-- The watch list: what is told of a list of records and a stretch, and what may be refused.
use Rattle.std.specs.Prelude.{ℕ, suc, Bool, true, false, cond, ◌&&◌, List, [], ◌∷◌, map, leb, ltb, length, take, Result, Ok, Err, Option, Some, None}
use Rattle.text.specs.Text.{Text}
use Rattle.text.specs.State.{marks}
use Rattle.text.specs.Card.{none, first_end}
use Rattle.text.specs.Refusal.{Outcome, ok, refused, demand, after, greatest_pattern, pattern, Answer, answer}
use Rattle.layout.specs.Reading.{stretch_of}
use Rattle.watch.specs.declared.watched.Watched.{Watched}
use Rattle.watch.specs.declared.answers.Found.{Found}
use Rattle.watch.specs.declared.answers.Found.TheVariants.{Ends}
use Rattle.watch.specs.declared.answers.Seen.{Seen}
use Rattle.text.specs.declared.refusal.Refusal.{Refusal}
use Rattle.watch.specs.declared.answers.Listed.{Listed}
use Rattle.watch.specs.declared.answers.Listed.TheVariants.{Marked}

-- a record of nothing
abbrev pub blank : Watched
blank = record { pattern = []; m = 0; label = 0 }

-- the most records of a list
abbrev pub most_watched : ℕ
most_watched = 32

-- a record's pattern: the first m of its bytes
unfoldable pub bases_of : Watched → List ℕ
bases_of w = take w.m w.pattern

-- nothing is refused
abbrev pub is_ok : {A : Type 0} → Outcome A → Bool
is_ok (ok a) = true
is_ok (refused n p) = false

-- a record whose pattern 1, 2 and 3 accept; of more than 64 bases it does not hold all
unfoldable pub sound : Watched → Bool
sound w = leb w.m greatest_pattern && is_ok (pattern (bases_of w) (ok (tt {0})))

unfoldable pub all_sound : List Watched → Bool
all_sound [] = true
all_sound (w ∷ ws) = sound w && all_sound ws

-- the index of the first record that is not; the length where every one is
unfoldable pub first_wrong : List Watched → ℕ
first_wrong [] = 0
first_wrong (w ∷ ws) = cond (sound w) (suc (first_wrong ws)) 0

-- the text in which a list is looked for: 20, 21, then those of the stretch
unfoldable pub listing : List Watched → List ℕ → Outcome Text
listing ws s =
    demand (leb (length ws) most_watched) 20 0
    (demand (all_sound ws) 21 (first_wrong ws)
    (stretch_of s))

-- the first segment of a text in which a record ends, or "none"
unfoldable pub first_of : Watched → Text → ℕ
first_of w t = first_end (marks (bases_of w) t)

-- a record ends anywhere in a text
unfoldable pub ends_in : Watched → Text → Bool
ends_in w t = ltb (first_of w t) none

-- the label and the first ending segment of a record; or that none ends
pub data Sighting : Type 0 where
  seen : ℕ → ℕ → Sighting
  clear : Sighting

-- the first record in list order that ends anywhere
unfoldable pub first_seen : List Watched → Text → Sighting
first_seen [] t = clear
first_seen (w ∷ ws) t = cond (ends_in w t) (seen w.label (first_of w t)) (first_seen ws t)

-- what `first` tells of a list and a stretch
unfoldable pub watching : List Watched → List ℕ → Outcome Sighting
watching ws s = after (listing ws s) λ t. ok (first_seen ws t)

abbrev pub told_found : Found → Outcome Sighting
told_found (Ends label segment) = ok (seen label segment)
told_found Found.None = ok clear
told_found (Found.Refused r) = refused r.number r.place

-- the same before it is told
abbrev pub told_seen : Result (Option Seen) Refusal → Outcome Sighting
told_seen (Ok (Some x)) = ok (seen x.label x.segment)
told_seen (Ok None) = ok clear
told_seen (Err r) = refused r.number r.place

-- the same in numbers: the label and the segment; 0 and "none" where no record ends
pub record Pointed : Type 0 where
  pub label : ℕ
  pub segment : ℕ

abbrev pub pointed_at : Sighting → Pointed
pointed_at (seen label segment) = record { label = label; segment = segment }
pointed_at clear = record { label = 0; segment = none }

abbrev pub zero_pointed : Pointed
zero_pointed = record { label = 0; segment = 0 }

abbrev pub answer_found : Found → Answer Pointed
answer_found r = answer zero_pointed (after (told_found r) λ x. ok (pointed_at x))

-- 1 or 0 for each record: whether it ends anywhere
unfoldable pub marks_of : List Watched → Text → List ℕ
marks_of ws t = map (λ w. cond (ends_in w t) 1 0) ws

-- the text whose marks go into a buffer of that many bytes: those of `first`, then 10
unfoldable pub marking : List Watched → List ℕ → ℕ → Outcome Text
marking ws s room = after (listing ws s) λ t. demand (leb (length ws) room) 10 0 (ok t)

abbrev pub told_listed : Listed → Outcome (Unit {0})
told_listed Marked = ok tt
told_listed (Listed.Refused r) = refused r.number r.place

-- the same in numbers
abbrev pub answer_listed : Listed → Answer (Unit {0})
answer_listed r = answer tt (told_listed r)

-- that it was accepted
abbrev pub accepted : {A : Type 0} → Outcome A → Outcome (Unit {0})
accepted o = after o λ _. ok tt
