-- Reading on from place to place, call by call, until the end; and the segments that are read so.
use Rattle.std.specs.Prelude.{ℕ, ◌≡◌, cond, List, [], ◌∷◌, eqb}
use Rattle.text.specs.Text.{Variant, Text}
use Rattle.stretch.specs.Places.{reading, part_of}
use Rattle.stretch.specs.Answers.{told_got}
use Rattle.stretch.specs.declared.reading.Got.{Got}
use Rattle.stretch.specs.declared.reading.Got.TheVariants.{End}

-- a variant that is handed out: its segment's number, and its letters
pub record Handed : Type 0 where
  pub segment : ℕ
  pub letters : Variant

-- it is what the calls answer at the place j v: `read` a variant of that segment and the place after it, `letters` its letters
pub record HandsOut (s : List ℕ) (j v : ℕ) (h : Handed) : Type 0 where
  pub start : ℕ
  pub len : ℕ
  pub next : ℕ
  pub read : told_got (Got.Variant start len h.segment next) ≡ reading s j v
  pub letters : h.letters ≡ part_of s (reading s j v).answer

-- from the place j v on, each call at the place that the one before it names, these are handed out, and then the end
unfoldable pub ReadOn : List ℕ → ℕ → ℕ → List Handed → Type 0
ReadOn s j v [] = told_got (End j v) ≡ reading s j v
ReadOn s j v (h ∷ l) = (x : HandsOut s j v h) × ReadOn s h.segment x.next l

-- the segments: variants handed out one after another with one number are one segment
abbrev pub before : Variant → Text → Text
before v [] = (v ∷ []) ∷ []
before v (g ∷ t) = (v ∷ g) ∷ t

abbrev pub joined : Handed → List Handed → Text → Text
joined h [] t = (h.letters ∷ []) ∷ t
joined h (i ∷ l) t = cond (eqb h.segment i.segment) (before h.letters t) ((h.letters ∷ []) ∷ t)

unfoldable pub gathered : List Handed → Text
gathered [] = []
gathered (h ∷ l) = joined h l (gathered l)

-- a stretch is read on to its end in one way, and the segments are those of t
pub record ReadsAs (s : List ℕ) (t : Text) : Type 0 where
  pub all : List Handed
  pub read : ReadOn s 0 0 all
  pub once : (l : List Handed) → ReadOn s 0 0 l → l ≡ all
  pub is : gathered all ≡ t
