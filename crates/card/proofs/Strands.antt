-- The card of a strand, on every input: 1, 2, 3 of the pattern as given, then the card of the pattern that the strand reads.
use Prim.Native.Nat.{ℕ}
use mathlib.Core.Path.{◌≡◌, ◌∙◌}
use mathlib.Core.Bool.{false}
use mathlib.Core.List.{List}
use lib.Dec.{leb}
use lib.ListN.{length}
use Rattle.text.specs.Refusal.{ok, refused, after, pattern, SoundPattern}
use Rattle.text.specs.Card.{empty_card, card_of, empty}
use Rattle.text.specs.Strand.{on_strand}
use Rattle.text.specs.declared.strand.Strand.{Strand}
use Rattle.text.proofs.Patterns.{pattern-refused, sound-pattern}
use Rattle.text.proofs.Strands.{strand-asked}
use Rattle.layout.specs.Bytes.{greatest_stretch}
use Rattle.layout.specs.Pieces.{}
use Rattle.layout.specs.Reading.{stretch_of}
use Rattle.card.specs.Rows.{carding}
use Rattle.card.proofs.Carded.{Carded}
use Rattle.card.specs.Answers.{empty_on, carding_on}

module _ (P : List ℕ) (strand : Strand) where
  pub empty-strand : empty_on P strand ≡ pattern P (ok (empty_card (on_strand strand P)))
  unfolding empty_on empty
  empty-strand = strand-asked strand P _

  pub carding-strand : (s : List ℕ) → carding_on P strand s ≡ pattern P (after (stretch_of s) λ t. ok (card_of (on_strand strand P) t))
  unfolding carding_on carding
  carding-strand s = strand-asked strand P _

  pub empty-on-wrong : (n p : ℕ) → pattern P (ok (tt {0})) ≡ refused n p → empty_on P strand ≡ refused n p
  unfolding empty_on
  empty-on-wrong n p e = pattern-refused P n p e _

  pub carding-on-wrong : (s : List ℕ) (n p : ℕ) → pattern P (ok (tt {0})) ≡ refused n p → carding_on P strand s ≡ refused n p
  unfolding carding_on
  carding-on-wrong s n p e = pattern-refused P n p e _

  module _ (y : SoundPattern P) where
    pub empty-on : empty_on P strand ≡ ok (empty_card (on_strand strand P))
    empty-on = empty-strand ∙ sound-pattern P y _

    pub carding-on : (s : List ℕ) → carding_on P strand s ≡ carding (on_strand strand P) s
    unfolding carding_on
    carding-on s = sound-pattern P y _

    -- the length is asked first of a stretch
    pub carding-long : (s : List ℕ) → leb (length s) greatest_stretch ≡ false → carding_on P strand s ≡ refused 4 0
    unfolding stretch_of
    carding-long s long = carding-strand s ∙ sound-pattern P y _ ∙ rw long

  -- of a sound pattern and a sound stretch
  pub carded-on : {s : List ℕ} (c : Carded P s) → carding_on P strand s ≡ ok (card_of (on_strand strand P) c.text)
  carded-on {s} c = carding-strand s ∙ sound-pattern P c.sound _ ∙ rw c.read
