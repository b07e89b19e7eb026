-- What the bytes of a text put, one after another, into letters, variant lengths and variant counts, as a write takes them.
use Rattle.std.specs.Prelude.{ℕ, ◌+◌, List, [], ◌∷◌, ◌++◌, Ok, Err}
use Rattle.eds_notation.specs.Numbers.{number}
use Rattle.eds_notation.specs.Notation.{Doing, act_of}
use Rattle.eds_notation.specs.declared.notation.Begun.{Begun}
use Rattle.eds_notation.specs.declared.notation.Act.TheVariants.{Pass, Letter, Variant, Segment}

-- what is put, what stands open after it, and the number of what is wrong there, 0 where nothing is
pub record Read : Type 0 where
  pub letters : List ℕ
  pub lengths : List ℕ
  pub counts : List ℕ
  pub begun : Begun
  pub wrong : ℕ

-- nothing is put
abbrev pub rests : Begun → ℕ → Read
rests o n = record { letters = []; lengths = []; counts = []; begun = o; wrong = n }

-- these are put before
abbrev pub onto : List ℕ → List ℕ → List ℕ → Read → Read
onto letters lengths counts r =
    record {
      letters = letters ++ r.letters;
      lengths = lengths ++ r.lengths;
      counts = counts ++ r.counts;
      begun = r.begun;
      wrong = r.wrong;
    }

-- what an act of the byte x puts, before what comes of what is open then: a letter, the length of the open variant, the count of the
-- open segment
abbrev pub acted : Begun → ℕ → Doing → (Begun → Read) → Read
acted o x (Ok (Pass p)) rest = rest p
acted o x (Ok (Letter p)) rest = onto (x ∷ []) [] [] (rest p)
acted o x (Ok (Variant p)) rest = onto [] (o.spelt ∷ []) [] (rest p)
acted o x (Ok (Segment p)) rest = onto [] (o.spelt ∷ []) ((o.variants + 1) ∷ []) (rest p)
acted o x (Err w) rest = rests o (number w)

-- what the bytes put, up to one that is wrong
unfoldable pub reads : Begun → List ℕ → Read
reads o [] = rests o 0
reads o (x ∷ s) = acted o x (act_of o x) (λ p. reads p s)
