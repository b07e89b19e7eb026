-- The cards of a row of stretches, of any number, joined one after another: the card of their texts end to end, which tells what searching
-- the stretches on that strand with the state handed on tells.
use Prim.Native.Nat.{ℕ, ◌+◌, ◌≤◌}
use native.Mathlib.Omega.{arith}
use mathlib.Core.Path.{◌≡◌, sym, ap, ◌∙◌}
use mathlib.Core.Bool.{true}
use mathlib.Core.List.{List, [], ◌∷◌, ◌++◌, append_assoc, append-nil}
use lib.ListN.{length, length-append}
use Rattle.text.specs.Text.{Text}
use Rattle.text.specs.State.{is_state, run, marks_from}
use Rattle.text.specs.Refusal.{Outcome, ok, after, SoundPattern}
use Rattle.text.specs.Card.{Card, most_segments, ran, card_of, first_end}
use Rattle.text.specs.Strand.{on_strand}
use Rattle.text.proofs.Outcomes.{ok-inj, after-met}
use Rattle.text.proofs.Strands.{strand-length, strand-sound}
use Rattle.text.proofs.TextCards.{empty-text}
use Rattle.layout.specs.Pieces.{most_in_stretch}
use Rattle.layout.specs.Reading.{stretch_of}
use Rattle.search.specs.Chain.{stretches_text, Trail, seeks}
use Rattle.search.proofs.Theorems.{seeks-stretches}
use Rattle.text.specs.declared.strand.Strand.{Strand}
use Rattle.card.specs.declared.cards.Card.{Card as Held}
use Rattle.card.specs.Held.{row_of}
use Rattle.card.specs.Cards.{card_out}
use Rattle.card.specs.Answers.{made}
use Rattle.card.proofs.Strands.{empty-on}
use Rattle.card.proofs.Calls.{emptying, making, joining, asking}
use Rattle.card.proofs.TextCalls.{of-accepts, of-text, joining-texts, asking-text}

-- the card of each next stretch joined to what stands before it
unfoldable pub gathering : List ℕ → Strand → Held → List (List ℕ) → Held
gathering P strand a [] = a
gathering P strand a (s ∷ ss) = gathering P strand (joining a (making P strand s).card).card ss

module _ (P : List ℕ) (strand : Strand) (sound : SoundPattern P) where
  Q : List ℕ
  Q = on_strand strand P

  read-sound : SoundPattern Q
  unfolding Q
  read-sound = strand-sound strand P sound

  -- after the text T
  gathering-texts :
      (T : Text) (ss : List (List ℕ)) (U : Text) → stretches_text ss ≡ ok U → length T + length U ≤ most_segments →
      gathering P strand (card_out (card_of Q T)) ss ≡ card_out (card_of Q (T ++ U))
  unfolding gathering stretches_text Q
  gathering-texts T [] U e l = let none : [] ≡ U = ok-inj e in rw (← none, append-nil T)
  gathering-texts T (s ∷ ss) U e l =
      let (t, read, more) = after-met (stretch_of s) (λ t. after (stretches_text ss) λ W. ok (t ++ W)) U e in
      let (W, rest, is) = after-met (stretches_text ss) (λ W. ok (t ++ W)) U more in
      let all : t ++ W ≡ U = ok-inj is in
      let size : length U ≡ length t + length W = ap length (sym all) ∙ length-append t W in
      let first : length T + length t ≤ most_segments = omega arith in
      let next : length (T ++ t) + length W ≤ most_segments = omega (arith, length-append T t) in
      let here = of-text P strand s t ((of-accepts P strand s).1 (record { sound = sound; text = t; read = read })) read in
      rw (here, joining-texts Q T t read-sound first)
      (gathering-texts (T ++ t) ss W rest next ∙ rw (append_assoc T t W, all))

  nothing : (emptying P strand).card ≡ card_out (card_of Q [])
  unfolding Q
  nothing = ap (λ (o : Outcome Card). (made o).card) (empty-on P strand sound) ∙ ap card_out (empty-text Q)

  -- from the empty card: the card of all the texts, and what it tells of a state is what the searches tell, the state after them all
  -- and the first of their marks that is 1
  module _ (ss : List (List ℕ)) (U : Text) (e : stretches_text ss ≡ ok U) (l : length U ≤ most_segments) where
    pub gathering-text : gathering P strand (emptying P strand).card ss ≡ card_out (card_of (on_strand strand P) U)
    unfolding Q
    gathering-text =
        let none : 0 + length U ≤ most_segments = omega arith in
        rw nothing (gathering-texts [] ss U e none)

    pub gathering-asked : (st room : ℕ) (x : Trail) → is_state (length P) st ≡ true → most_in_stretch ≤ room → seeks P strand st room ss ≡ ok x
        → asking (gathering P strand (emptying P strand).card ss) st ≡ ok (row_of x.state (first_end x.marks))
    unfolding ran Q
    gathering-asked st room x i roomy found =
        let is : record { marks = marks_from Q st U; state = run Q st U } ≡ x =
        ok-inj (sym (seeks-stretches P strand st room ss U sound i roomy e) ∙ found) in
        rw (gathering-text, ← is) (asking-text Q U read-sound st l (rw (strand-length strand P) i))
