-- Laws of strands: the opposite of the opposite is the string, it has as many bases, and bases only; what is asked of a pattern need not
-- be asked of it on the other strand.
use Prim.Native.Nat.{ℕ, suc, ◌+◌, ◌-◌, ◌<◌, ◌≤◌}
use native.Mathlib.Decide.{ℕ_discrete}
use native.Mathlib.Omega.{arith}
use mathlib.Core.Path.{◌≡◌, refl, sym, ap, ap₂, ◌∙◌}
use mathlib.Core.Logic.{by_cases}
use mathlib.Core.Bool.{Bool, ◌&&◌}
use mathlib.Core.List.{List, [], ◌∷◌, ◌++◌}
use borrow.Author.Tests.{ne_eqb, le-leb, lt-leb}
use lib.ListN.{length, get_or, take, set}
use Rattle.text.specs.Letter.{base, every}
use Rattle.text.specs.Text.{Segment, Text}
use Rattle.text.specs.Refusal.{Outcome, ok, refused, after, pattern, SoundPattern}
use Rattle.text.specs.Card.{padded}
use Rattle.text.specs.Strand.{complement, opposite, opposite_segment, opposite_text, on_strand, read_on}
use Rattle.text.specs.declared.strand.Strand.{Strand}
use Rattle.text.specs.declared.strand.Strand.TheVariants.{Given, Opposite}
use Rattle.text.proofs.Truth.{and_comm}
use Rattle.text.proofs.Letters.{every-snoc}
use Rattle.text.proofs.Patterns.{pattern-after, pattern-sound, sound-pattern}
use Rattle.text.proofs.Cards.{take-padded}
use Rattle.text.proofs.Padding.{Padding, padding-more, padding-all}
use Rattle.text.proofs.Turned.{turned-cons, turned-append, turned-length, turned-twice, turned-at}

-- a byte that is none of the four
pub record NoBase (c : ℕ) : Type 0 where
  pub not-A : c ≡ 0x41 → ⊥
  pub not_T : c ≡ 0x54 → ⊥
  pub not-C : c ≡ 0x43 → ⊥
  pub not-G : c ≡ 0x47 → ⊥

pub complement-other : (c : ℕ) → NoBase c → complement c ≡ c
unfolding complement
complement-other c n = rw (ne_eqb c 0x41 n.not-A, ne_eqb c 0x54 n.not_T, ne_eqb c 0x43 n.not-C, ne_eqb c 0x47 n.not-G)

-- what holds of the four bases and of every byte that keeps its own, holds of every byte
each-byte : (X : ℕ → Type 0) → X 0x41 → X 0x54 → X 0x43 → X 0x47 → ((c : ℕ) → complement c ≡ c → X c) → (c : ℕ) → X c
each-byte X a t g k other c =
    by_cases (ℕ_discrete c 0x41) (λ (e : c ≡ 0x41). rw e a)
    (λ (not-A : ¬ (c ≡ 0x41)).
    by_cases (ℕ_discrete c 0x54) (λ (e : c ≡ 0x54). rw e t)
    (λ (not_T : ¬ (c ≡ 0x54)).
    by_cases (ℕ_discrete c 0x43) (λ (e : c ≡ 0x43). rw e g)
    (λ (not-C : ¬ (c ≡ 0x43)).
    by_cases (ℕ_discrete c 0x47) (λ (e : c ≡ 0x47). rw e k)
    (λ (not-G : ¬ (c ≡ 0x47)). other c (complement-other c (record { not-A = not-A; not_T = not_T; not-C = not-C; not-G = not-G }))))))

pub complement-twice : (c : ℕ) → complement (complement c) ≡ c
unfolding complement
complement-twice = each-byte (λ c. complement (complement c) ≡ c) refl refl refl refl (λ c e. ap complement e ∙ e)

-- the complement of a base is one, and of no other byte
base-complement : (c : ℕ) → base (complement c) ≡ base c
unfolding base complement
base-complement = each-byte (λ c. base (complement c) ≡ base c) refl refl refl refl (λ c e. ap base e)

-- strings
pub opposite-append : (p q : List ℕ) → opposite (p ++ q) ≡ opposite q ++ opposite p
unfolding opposite
opposite-append = turned-append complement

pub opposite-twice : (P : List ℕ) → opposite (opposite P) ≡ P
unfolding opposite
opposite-twice = turned-twice complement complement-twice

pub opposite-length : (P : List ℕ) → length (opposite P) ≡ length P
unfolding opposite
opposite-length = turned-length complement

-- byte i of the opposite is the complement of the byte that stands as far from the end
pub opposite-at : (P : List ℕ) (i : ℕ) → i < length P → get_or (opposite P) i 0 ≡ complement (get_or P (length P - suc i) 0)
unfolding opposite
opposite-at P i l =
    let far : length P - suc i < length P = omega arith in
    let back : length P - suc (length P - suc i) ≡ i = omega arith in
    rw back at (turned-at complement P (length P - suc i) 0 0 far)

pub opposite-bases : (P : List ℕ) → every base (opposite P) ≡ every base P
unfolding every opposite
opposite-bases [] = refl
opposite-bases (c ∷ P) =
    ap (every base) (turned-cons complement c P)
    ∙ every-snoc base (opposite P) (complement c)
    ∙ ap₂ (λ (a b : Bool). a && b) (opposite-bases P) (base-complement c)
    ∙ and_comm (every base P) (base c)

-- the opposite, written byte by byte over 64 zeros
module _ (P bytes : List ℕ) (i : ℕ) (h : Padding (opposite P) bytes i) where
  pub turned_more : (c : ℕ) → c ≡ complement (get_or P (length P - 1 - i) 0) → length P ≤ 64 → i < length P
      → Padding (opposite P) (set bytes i c) (i + 1)
  turned_more c e short l =
      let long : length (opposite P) ≡ length P = opposite-length P in
      let near : length P - 1 - i ≡ length P - suc i = omega arith in
      let at : c ≡ get_or (opposite P) i 0 = e ∙ ap (λ (k : ℕ). complement (get_or P k 0)) near ∙ sym (opposite-at P i l) in
      padding-more (opposite P) bytes i h c at (omega arith) (omega arith)

  pub turned-all : length P ≤ i → bytes ≡ padded (opposite P)
  turned-all l = padding-all (opposite P) bytes i h (omega (arith, opposite-length P))

-- texts
pub segment-twice : (g : Segment) → opposite_segment (opposite_segment g) ≡ g
segment-twice [] = refl
segment-twice (s ∷ g) = ap₂ (λ (v : List ℕ) (h : Segment). v ∷ h) (opposite-twice s) (segment-twice g)

pub text-twice : (T : Text) → opposite_text (opposite_text T) ≡ T
unfolding opposite_text
text-twice = turned-twice opposite_segment segment-twice

pub text-cons : (g : Segment) (T : Text) → opposite_text (g ∷ T) ≡ opposite_text T ++ (opposite_segment g ∷ [])
unfolding opposite_text
text-cons = turned-cons opposite_segment

pub text-length : (T : Text) → length (opposite_text T) ≡ length T
unfolding opposite_text
text-length = turned-length opposite_segment

-- patterns
pub strand-twice : (strand : Strand) (P : List ℕ) → on_strand strand (on_strand strand P) ≡ P
strand-twice Given P = refl
strand-twice Opposite P = opposite-twice P

pub strand-length : (strand : Strand) (P : List ℕ) → length (on_strand strand P) ≡ length P
strand-length Given P = refl
strand-length Opposite P = opposite-length P

pub strand-bases : (strand : Strand) (P : List ℕ) → every base (on_strand strand P) ≡ every base P
strand-bases Given P = refl
strand-bases Opposite P = opposite-bases P

module _ (strand : Strand) (P : List ℕ) where
  -- a pattern is one on either strand
  pub strand-sound : SoundPattern P → SoundPattern (on_strand strand P)
  strand-sound s =
      let e : length (on_strand strand P) ≡ length P = strand-length strand P in
      record { some = omega arith; short = omega arith; bases = strand-bases strand P ∙ s.bases }

  -- what is asked of a pattern need not be asked of it on the strand that reads it
  pub strand-asked : {A : Type 0} (o : Outcome A) → pattern P (pattern (on_strand strand P) o) ≡ pattern P o
  strand-asked o = pattern-after P (pattern (on_strand strand P) o) ∙ go (pattern P (ok (tt {0}))) refl ∙ sym (pattern-after P o)
    where
      go : (a : Outcome (Unit {0})) → pattern P (ok (tt {0})) ≡ a → after a (λ _. pattern (on_strand strand P) o) ≡ after a (λ _. o)
      go (ok tt) e = sound-pattern (on_strand strand P) (strand-sound (pattern-sound P e)) o
      go (refused n p) e = refl

  -- an accepted pattern is accepted on either strand
  pub strand-accepted : pattern P (ok (tt {0})) ≡ ok tt → pattern (on_strand strand P) (ok (tt {0})) ≡ ok tt
  strand-accepted e = sound-pattern (on_strand strand P) (strand-sound (pattern-sound P e)) (ok tt)

  -- of a pattern up to 64 bytes, the 64 bytes are those of the pattern on its strand, and the first of them are that pattern
  pub read-padded : length P ≤ 64 → read_on strand P ≡ padded (on_strand strand P)
  unfolding read_on
  read-padded short = rw (le-leb (length P) 64 short)

  pub read-front : length P ≤ 64 → take (length P) (read_on strand P) ≡ on_strand strand P
  read-front short = rw (read-padded short, ← strand-length strand P) (take-padded (on_strand strand P))

  -- of over 64 bytes, the first 64 as they stand
  pub read-long : 64 < length P → read_on strand P ≡ padded (take 64 P)
  unfolding read_on
  read-long long = rw (lt-leb (length P) 64 long)

-- the same, where the strand is known
pub read_known : (strand known : Strand) (P : List ℕ) → strand ≡ known → length P ≤ 64 → padded (on_strand known P) ≡ read_on strand P
read_known strand known P e short = ap (λ (s : Strand). padded (on_strand s P)) (sym e) ∙ sym (read-padded strand P short)

-- for callers: the first m of the 64 bytes that were read, and how many they are
module _ (strand : Strand) (P bytes : List ℕ) (e : bytes ≡ read_on strand P) (short : length P ≤ 64) where
  pub part-read : take (length P) bytes ≡ on_strand strand P
  part-read = ap (take (length P)) e ∙ read-front strand P short

  pub part_length : length P ≡ length (take (length P) bytes)
  part_length = sym (ap length part-read ∙ strand-length strand P)
