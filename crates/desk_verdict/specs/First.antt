-- Where a withheld sequence stands that is searched to its first end alone, after stretches that are read one after another up to there.
use Rattle.std.specs.Prelude.{ℕ, min, cond, List, [], ◌∷◌, eqb, Some, None}
use Rattle.text.specs.Refusal.{Outcome, ok, refused, after}
use Rattle.text.specs.declared.strand.Strand.TheVariants.{Given, Opposite}
use Rattle.layout.specs.Bytes.{word_at}
use Rattle.search.specs.First.{Hit, ends_in, clear, firsting}
use Rattle.desk_verdict.specs.Standing.{plus}
use Rattle.desk_verdict.specs.declared.standing.Standing.{Standing}
use Rattle.search.specs.declared.both.words.Pair.{Pair}
use Rattle.desk_verdict.specs.declared.first.Heard.{Heard}
use Rattle.desk_verdict.specs.declared.first.Heard.TheVariants.{Ends, Nowhere}
use Rattle.desk_verdict.specs.declared.first.Stopped.{Stopped}

-- what two strands say of one stretch: the earlier end, whatever fault is after it; a refusal where neither ends
abbrev pub earlier : Outcome Hit → Outcome Hit → Outcome Heard
earlier (ok (ends_in j)) (ok (ends_in k)) = ok (Ends (min j k))
earlier (ok (ends_in j)) (ok (clear b)) = ok (Ends j)
earlier (ok (ends_in j)) (refused n p) = ok (Ends j)
earlier (ok (clear a)) (ok (ends_in k)) = ok (Ends k)
earlier (ok (clear a)) (ok (clear b)) = ok (Nowhere (record { given = a; opposite = b }))
earlier (ok (clear a)) (refused n p) = refused n p
earlier (refused n p) (ok (ends_in k)) = ok (Ends k)
earlier (refused n p) (ok (clear b)) = refused n p
earlier (refused n p) (refused m q) = refused n p

-- both strands of one stretch, each from where it stands
unfoldable pub on_both : List ℕ → Standing → List ℕ → Outcome Heard
on_both P x s = earlier (firsting P Given x.state.given s) (firsting P Opposite x.state.opposite s)

-- the first end in a segment of a stretch, and where the sequence then stands; or where it stands after the stretch
abbrev pub at : ℕ → Standing → Stopped
at k x = record { end = Some k; standing = x }

abbrev pub goes : Standing → Stopped
goes x = record { end = None; standing = x }

-- an end in segment k: the segments are those up to this one, and one of them is an end
abbrev pub ended : Standing → ℕ → Standing
ended x k = record { state = x.state; segments = plus x.segments (plus k 1); ends = 1 }

-- no end in n segments: the states after them
abbrev pub gone : Standing → Pair → ℕ → Standing
gone x y n = record { state = y; segments = plus x.segments n; ends = 0 }

-- what comes of a stretch of which both strands say e; one in which nothing ends has the segments that it states
abbrev pub halted : Standing → List ℕ → Heard → Stopped
halted x s (Ends k) = at k (ended x k)
halted x s (Nowhere y) = goes (gone x y (word_at s 0))

-- one more stretch up to the first end; of a sequence that has ended nothing more is read
unfoldable pub halting : List ℕ → Standing → List ℕ → Outcome Stopped
halting P x s = cond (eqb x.ends 0) (after (on_both P x s) λ e. ok (halted x s e)) (ok (goes x))

-- where the sequence stands after stretches, one after another, up to its first end; the first that is refused before refuses all
unfoldable pub halts : List ℕ → Standing → List (List ℕ) → Outcome Standing
halts P x [] = ok x
halts P x (s ∷ ss) = after (halting P x s) λ h. halts P h.standing ss
