-- The empty card on either side of a well-formed card of the pattern that its strand reads.
use Prim.Native.Nat.{ℕ, ◌<◌, ◌≤◌}
use mathlib.Core.Path.{◌≡◌, sym, ap, ◌∙◌}
use mathlib.Core.Bool.{true}
use mathlib.Core.List.{List}
use lib.ListN.{length}
use Rattle.text.specs.Letter.{base, every}
use Rattle.text.specs.Card.{padded, empty_card, well_formed}
use Rattle.text.specs.Strand.{on_strand}
use Rattle.text.specs.declared.strand.Strand.{Strand}
use Rattle.text.proofs.Strands.{strand-length, strand-bases}
use Rattle.text.proofs.Cards.Formed.{well, take-padded}
use Rattle.text.proofs.Cards.Neutral.{empty_left, empty_right}
use Rattle.card.specs.declared.cards.Card.{Card as Held}
use Rattle.card.specs.Held.{Full}
use Rattle.card.specs.Cards.{card_in, card_out}
use Rattle.card.specs.Answers.{accepted, made}
use Rattle.card.proofs.Held.{in-out, out-in}
use Rattle.card.proofs.Strands.{empty-on}
use Rattle.card.proofs.Calls.{emptying, joining}

module _ (P : List ℕ) (strand : Strand) (a : Held) (full : Full a.exits a.firsts) (w : well_formed (card_in a) ≡ true)
    (bytes : a.pattern ≡ padded (on_strand strand P)) (size : a.m ≡ length P) where
  Q : List ℕ
  Q = on_strand strand P

  sizes : a.m ≡ length Q
  unfolding Q
  sizes = size ∙ sym (strand-length strand P)

  made-empty : emptying P strand ≡ accepted (card_out (empty_card Q))
  unfolding Q
  made-empty =
      let f = (well (card_in a)).0 w in
      let some : 0 < length P = rw size at f.some in
      let short : length P ≤ 64 = rw size at f.short in
      let read : every base Q ≡ true = rw (bytes, sizes, take-padded) at f.bases in
      ap made (empty-on P strand (record { some = some; short = short; bases = sym (strand-bases strand P) ∙ read }))

  pub joining-empty-left : joining (emptying P strand).card a ≡ accepted a
  unfolding Q
  joining-empty-left = rw (made-empty, in-out (empty_card Q), empty_left Q (card_in a) w bytes sizes, out-in a full)

  pub joining-empty-right : joining a (emptying P strand).card ≡ accepted a
  unfolding Q
  joining-empty-right = rw (made-empty, in-out (empty_card Q), empty_right Q (card_in a) w bytes sizes, out-in a full)
