-- What the C forms answer and leave: where the block has room for the results, and where it is too short.
use Prim.Native.Nat.{ℕ, ◌+◌, ◌*◌, ◌≤◌, ◌<◌}
use native.Mathlib.Omega.{arith}
use mathlib.Core.Path.{◌≡◌, refl, sym, ap, ◌∙◌}
use mathlib.Core.Bool.{Bool, true, false}
use mathlib.Core.List.{List, ◌++◌}
use borrow.Author.Tests.{le-leb, lt-leb}
use lib.Dec.{leb}
use lib.ListN.{length}
use Rattle.text.specs.Text.{Text}
use Rattle.text.specs.Refusal.{Outcome, ok, refused, demand, after, pattern}
use Rattle.text.proofs.Outcomes.{told-met, told-refused}
use Rattle.text.proofs.Patterns.{pattern-after, pattern-refused, pattern-sound, sound-pattern}
use Rattle.layout.specs.Bytes.{over}
use Rattle.layout.specs.Reading.{stretch_of}
use Rattle.stretch.specs.Answers.{checking}
use Rattle.stretch.specs.declared.checking.Sum.{Sum}
use Rattle.layout.specs.Bytes.{left_by}
use Rattle.search.specs.Answers.{entering, into, searching, seeking}
use Rattle.search.proofs.Entries.{entering-after}
use Rattle.cerantuh.specs.Forms.{low_first, coded, with_room, two_into, searching_into, seeking_into}
use Rattle.cerantuh.proofs.Blocks.{two-put}

-- a value that is told in other words: the same code, and the same bytes left
pub told-code : {A B : Type 0} (o : Outcome A) (g : A → B) → coded (after o (λ a. ok (g a))) ≡ coded o
told-code (ok a) g = refl
told-code (refused n p) g = refl

pub told-left : {A B : Type 0} (o : Outcome A) (g : A → B) (f : B → List ℕ) (d : List ℕ) →
    left_by f (after o (λ a. ok (g a))) d ≡ left_by (λ a. f (g a)) o d
told-left (ok a) g f d = refl
told-left (refused n p) g f d = refl

same : {A : Type 0} (o : Outcome A) → after o (λ a. ok a) ≡ o
same (ok a) = refl
same (refused n p) = refl

-- no room for the results
abbrev pub roomless : Outcome Text
roomless = refused 10 0

-- with room for the results the call decides; without it 10 comes last
module _ {A : Type 0} (bytes block : ℕ) (o : Outcome A) where
  pub room-enough : bytes ≤ block → with_room bytes block o ≡ o
  room-enough l = rw (le-leb bytes block l) (same o)

  pub room-short : block < bytes → with_room bytes block o ≡ after o (λ _. refused 10 0)
  room-short l = rw (lt-leb bytes block l)

-- what is asked first, x, then a text y, then the room of its marks, then 10
last-10 : (x : Outcome (Unit {0})) (y : Outcome Text) (marks : ℕ) →
    after (after x (λ _. into marks y)) (λ _. roomless) ≡ after x (λ _. after y (λ _. roomless))
unfolding into
last-10 (ok x) (ok t) marks = asked t (leb (length t) marks)
  where
    asked : (t : Text) (b : Bool) → after (demand b 10 0 (ok t)) (λ _. roomless) ≡ roomless
    asked t true = refl
    asked t false = refl
last-10 (ok x) (refused n p) marks = refl
last-10 (refused n p) y marks = refl

-- nothing is written then
none_left : (x : Outcome (Unit {0})) (y : Outcome Text) (f : Text → List ℕ) (d : List ℕ)
    → left_by f (after x (λ _. after y (λ _. roomless))) d ≡ d
none_left (ok x) (ok t) f d = refl
none_left (ok x) (refused n p) f d = refl
none_left (refused n p) y f d = refl

-- what a form of a search promises of its answer, of the mark buffer and of the block, where o is what it accepts or refuses
abbrev pub Formed : {B : Type 0} → (Text → List ℕ) → (Text → B) → (B → List ℕ) → Outcome Text → List ℕ → List ℕ → ℕ → List ℕ
    → List ℕ → Type 0
Formed f g bytes o marks block r marks' block' =
    (r ≡ coded o) × ((marks' ≡ left_by f o marks) × (block' ≡ left_by (λ t. bytes (g t)) o block))

-- it holds where the search, its marks and what is told of them are as the search says
pub formed : {B : Type 0} (f : Text → List ℕ) (g : Text → B) (bytes : B → List ℕ) (o : Outcome Text) (marks block : List ℕ)
    (told : Outcome B)
    → told ≡ after o (λ t. ok (g t)) → (r : ℕ) (marks' block' : List ℕ) → marks' ≡ left_by f o marks → r ≡ coded told
    → block' ≡ left_by bytes told block → Formed f g bytes o marks block r marks' block'
formed {B} f g bytes o marks block told e r marks' block' wrote is left =
    (is ∙ ap coded e ∙ told-code o g, (wrote, left ∙ ap (λ (x : Outcome B). left_by bytes x block) e ∙ told-left o g bytes block))

module _ (P s : List ℕ) (marks block : ℕ) where
  pub search-room : 24 ≤ block → searching_into P s marks block ≡ searching P s marks
  unfolding searching_into
  search-room l = room-enough 24 block (searching P s marks) l

  -- without room, the pattern is asked, the stretch, then 10
  pub search-short : block < 24 → searching_into P s marks block ≡ pattern P (after (stretch_of s) (λ _. roomless))
  unfolding searching_into searching
  search-short l =
      room-short 24 block (searching P s marks) l ∙ ap (λ (o : Outcome Text). after o (λ _. roomless))
      (pattern-after P (into marks (stretch_of s)))
      ∙ last-10 (pattern P (ok (tt {0}))) (stretch_of s) marks
      ∙ sym (pattern-after P _)

  module _ (l : block < 24) where
    pub short-pattern : (n p : ℕ) → pattern P (ok (tt {0})) ≡ refused n p → searching_into P s marks block ≡ refused n p
    short-pattern n p e = search-short l ∙ pattern-refused P n p e _

    module _ (sound : pattern P (ok (tt {0})) ≡ ok tt) where
      asked-stretch : searching_into P s marks block ≡ after (stretch_of s) (λ _. roomless)
      asked-stretch = search-short l ∙ sound-pattern P (pattern-sound P sound) _

      pub short-stretch : (n p : ℕ) → checking s ≡ refused n p → searching_into P s marks block ≡ refused n p
      unfolding checking
      short-stretch n p e = asked-stretch ∙ rw (told-refused (stretch_of s) _ n p e)

      pub short-sound : (x : Sum) → checking s ≡ ok x → searching_into P s marks block ≡ refused 10 0
      unfolding checking
      short-sound x e = let t = told-met (stretch_of s) _ x e in asked-stretch ∙ rw t.1

  -- and nothing is written
  pub left-short : (f : Text → List ℕ) (d : List ℕ) → block < 24 → left_by f (searching_into P s marks block) d ≡ d
  left-short f d l =
      rw (search-short l, pattern-after P (after (stretch_of s) (λ _. roomless))) (none_left (pattern P (ok (tt {0}))) (stretch_of s) f d)

-- the same from a state: 1, 2, 3, 4 and 17 are asked first
module _ (P : List ℕ) (st : ℕ) (s : List ℕ) (marks block : ℕ) where
  pub seek-room : 32 ≤ block → seeking_into P st s marks block ≡ seeking P st s marks
  unfolding seeking_into
  seek-room l = room-enough 32 block (seeking P st s marks) l

  pub seek-short : block < 32 → seeking_into P st s marks block ≡ entering P st s (after (stretch_of s) (λ _. roomless))
  unfolding seeking_into seeking
  seek-short l =
      room-short 32 block (seeking P st s marks) l ∙ ap (λ (o : Outcome Text). after o (λ _. roomless))
      (entering-after P st s (into marks (stretch_of s)))
      ∙ last-10 (entering P st s (ok (tt {0}))) (stretch_of s) marks
      ∙ sym (entering-after P st s _)

  pub seek-left : (f : Text → List ℕ) (d : List ℕ) → block < 32 → left_by f (seeking_into P st s marks block) d ≡ d
  seek-left f d l =
      rw (seek-short l, entering-after P st s (after (stretch_of s) (λ _. roomless)))
      (none_left (entering P st s (ok (tt {0}))) (stretch_of s) f d)

-- what a form without a mark buffer promises of its answer and of the block, where o is what it accepts or refuses
abbrev pub Answered : {A : Type 0} → (A → List ℕ) → Outcome A → List ℕ → ℕ → List ℕ → Type 0
Answered f o block r block' = (r ≡ coded o) × (block' ≡ left_by f o block)

-- one with two results: the call o decides first; the block is asked last
module _ {A : Type 0} (f : A → List ℕ) (o : Outcome A) (block : List ℕ) where
  pub two-not : (n p r : ℕ) → o ≡ refused n p → r ≡ n + 256 * p → Answered f (with_room 16 (length block) o) block r block
  two-not n p r e is = rw e (is, refl)

  pub two-met :
      (x : A) (a b r : ℕ) (left : List ℕ) → o ≡ ok x → f x ≡ low_first 8 a ++ low_first 8 b →
      Answered (λ l. l) (two_into a b (length block)) block r left → Answered f (with_room 16 (length block) o) block r left
  two-met x a b r left e bytes (is, wrote) = rw e (asked (leb 16 (length block)) is wrote)
    where
      asked : (t : Bool) → r ≡ coded (demand t 10 0 (ok (low_first 8 a ++ low_first 8 b))) →
          left ≡ left_by (λ l. l) (demand t 10 0 (ok (low_first 8 a ++ low_first 8 b))) block → Answered f (demand t 10 0 (ok x)) block r left
      asked true is wrote = (is, rw bytes wrote)
      asked false is wrote = (is, wrote)

-- the two results stand in a block that has room for them, and a shorter one is left as it was
pub two-short : (a b : ℕ) (block : List ℕ) → length block < 16 → Answered (λ l. l) (two_into a b (length block)) block 10 block
two-short a b block l = rw (lt-leb 16 (length block) l) (refl, refl)

pub two-room :
    (a b : ℕ) (block one left : List ℕ) → 16 ≤ length block → one ≡ over block 0 (low_first 8 a) → left ≡ over one 8 (low_first 8 b) →
    Answered (λ l. l) (two_into a b (length block)) block 0 left
two-room a b block one left l f g =
    rw (le-leb 16 (length block) l) (refl, g ∙ rw f (two-put block a b (omega arith)))
