-- Where a withheld sequence stands after the stretches of a text, searched one after another on both strands.
use Rattle.std.specs.Prelude.{ℕ, ◌+◌, min, cond, not, List, [], ◌∷◌, eqb, ltb, length, drop, Option, Some, None}
use Rattle.text.specs.Letter.{first_not}
use Rattle.text.specs.Text.{Text}
use Rattle.text.specs.State.{run}
use Rattle.text.specs.Strand.{opposite}
use Rattle.text.specs.Refusal.{Outcome, ok, after}
use Rattle.layout.specs.Pieces.{most_in_stretch}
use Rattle.search.specs.Either.{either_from, seeking_both}
use Rattle.lines.specs.Answer.{marked_from}
use Rattle.desk_verdict.specs.declared.standing.Standing.{Standing}
use Rattle.desk_verdict.specs.declared.standing.Passed.{Passed}

-- a sum that stays at the greatest number of 64 bits
unfoldable pub plus : ℕ → ℕ → ℕ
plus a b = min (a + b) 0xffffffffffffffff

-- the first place from `from` on whose mark is 1
unfoldable pub next_marked : List ℕ → ℕ → ℕ
next_marked marks from = from + first_not (λ x. not (eqb x 1)) (drop from marks)

-- that place, if it is one of the marks
abbrev pub next_mark : List ℕ → ℕ → Option ℕ
next_mark marks from = cond (ltb (next_marked marks from) (length marks)) (Some (next_marked marks from)) None

-- a stretch that is searched on both strands, each from where it stands: the refusals of the search
unfoldable pub passing : List ℕ → Standing → List ℕ → ℕ → Outcome Text
passing P x s room = seeking_both P x.state.given x.state.opposite s room

-- the segments of a text in which an occurrence ends on either strand
unfoldable pub both_marks : List ℕ → Standing → Text → List ℕ
both_marks P x t = either_from P x.state.given x.state.opposite t

-- where the sequence stands after a text
unfoldable pub stood : List ℕ → Standing → Text → Standing
stood P x t =
    record {
      state = record { given = run P x.state.given t; opposite = run (opposite P) x.state.opposite t };
      segments = plus x.segments (length t);
      ends = plus x.ends (length (marked_from 0 (both_marks P x t)));
    }

-- what is told of a stretch: its segment count, and where the sequence stands after it
abbrev pub behind : List ℕ → Standing → Text → Passed
behind P x t = record { segments = length t; standing = stood P x t }

-- nothing is searched yet
abbrev pub begun : Standing
begun = record { state = record { given = 1; opposite = 1 }; segments = 0; ends = 0 }

-- where the sequence stands after stretches, one after another; the first that is refused refuses all
unfoldable pub stands : List ℕ → Standing → List (List ℕ) → Outcome Standing
stands P x [] = ok x
stands P x (s ∷ ss) = after (passing P x s most_in_stretch) λ t. stands P (stood P x t) ss
