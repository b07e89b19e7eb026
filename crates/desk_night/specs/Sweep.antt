-- Every sequence of a list, taken over one stretch.
use Rattle.std.specs.Prelude.{ℕ, suc, Bool, cond, List, [], ◌∷◌, take, set, Some, None}
use Rattle.std.specs.Option.{option_or}
use Rattle.text.specs.Refusal.{Outcome, ok, refused, after}
use Rattle.layout.specs.Pieces.{most_in_stretch}
use Rattle.desk_verdict.specs.Standing.{passing, stood}
use Rattle.desk_verdict.specs.First.{halting}
use Rattle.desk_verdict.specs.declared.standing.Standing.{Standing}
use Rattle.desk_list.specs.Lines.{Sequence, sequences_of, most}
use Rattle.desk_night.specs.Standings.{standing_at}
use Rattle.desk_night.specs.declared.trouble.Trouble.{Trouble}
use Rattle.desk_night.specs.declared.sweeping.Swept.{Swept}

-- a sequence after one stretch more, searched to its first end
unfoldable pub halted : List ℕ → Standing → List ℕ → Outcome Standing
halted P x s = after (halting P x s) λ h. ok h.standing

-- the same, searched to all of its ends
unfoldable pub passed : List ℕ → Standing → List ℕ → Outcome Standing
passed P x s = after (passing P x s most_in_stretch) λ t. ok (stood P x t)

-- a sequence after one stretch more, as far as the night asks
unfoldable pub moved : Bool → List ℕ → Standing → List ℕ → Outcome Standing
moved first P x s = cond first (halted P x s) (passed P x s)

-- sequence k goes where it is moved to; one that is refused stays, and the first refusal is kept
abbrev pub landed : ℕ → Swept → Outcome Standing → Swept
landed k x (ok y) = record { standings = set x.standings k y; trouble = x.trouble }
landed k x (refused n p) =
    record { standings = x.standings; trouble = option_or x.trouble (Some (Trouble.Refused (record { number = n; place = p }))) }

-- sequence k, with these bases, taken over a stretch
unfoldable pub turned : Bool → List ℕ → List ℕ → ℕ → Swept → Swept
turned first s P k x = landed k x (moved first P (standing_at x.standings k) s)

-- these sequences, from number k on, taken over a stretch one after another
unfoldable pub sweeping : Bool → List ℕ → ℕ → List Sequence → Swept → Swept
sweeping first s k [] x = x
sweeping first s k (P ∷ Ps) x = sweeping first s (suc k) Ps (turned first s P.bases k x)

-- every sequence of a list: there are 32 at most
unfoldable pub swept : Bool → List ℕ → List ℕ → List Standing → Swept
swept first list s xs = sweeping first s 0 (take most (sequences_of list)) (record { standings = xs; trouble = None })
