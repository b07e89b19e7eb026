-- Cards as they are made from the pattern that a strand reads: of no segments, and of a stretch whose rows are told.
use Prim.Native.Nat.{ℕ}
use mathlib.Core.Path.{◌≡◌, sym, ap, ◌∙◌}
use mathlib.Core.List.{List}
use lib.ListN.{length, take, replicate}
use Rattle.text.specs.Refusal.{Outcome, ok, refused, SoundPattern}
use Rattle.text.specs.Strand.{on_strand, read_on}
use Rattle.text.specs.Card.{Card, none, padded, card_of, empty_card}
use Rattle.text.specs.declared.strand.Strand.{Strand}
use Rattle.text.proofs.Strands.{strand-length, read-padded}
use Rattle.search.proofs.ReadOns.{read_is}
use Rattle.text.specs.declared.refusal.Refusal.{Refusal}
use Rattle.card.specs.declared.rows.start.Rows.{Rows}
use Rattle.card.specs.declared.rows.passes.Summed.{Summed}
use Rattle.card.specs.Held.{lones}
use Rattle.card.specs.Rows.{carding, summed, rowed}
use Rattle.card.proofs.Lones.{exits-lone, firsts-lone}
use Rattle.card.proofs.Carded.{Carded, carded-text, told-accepts}
use mathlib.Core.Bool.{false≢true}
use Rattle.std.proofs.Common.{Result, Ok, Err, refl}
use Rattle.std.specs.Result.{is_ok}
use Rattle.std.proofs.lemmas.Result.{IfOk-at_ok, IfErr-at_err}
use Rattle.card.specs.Cards.{card_out}
use Rattle.card.specs.Answers.{empty_on, carding_on, held}
use Rattle.card.proofs.Strands.{empty-on, carding-on}

module _ (strand : Strand) (P bytes : List ℕ) (e : bytes ≡ read_on strand P) (y : SoundPattern P) where
  filled : bytes ≡ padded (on_strand strand P)
  filled = e ∙ read-padded strand P y.short

  long : length P ≡ length (on_strand strand P)
  long = sym (strand-length strand P)

  pub nothing-made : (rows : Rows) → rows ≡ record { exits = lones (length P); firsts = replicate 64 none }
      → Ok (record { pattern = bytes; m = length P; segments = 0; exits = rows.exits; firsts = rows.firsts }) ≡ held (empty_on P strand)
  unfolding empty_card
  nothing-made rows alone = ap Ok whole ∙ ap held (sym (empty-on P strand y))
    where
      whole : record { pattern = bytes; m = length P; segments = 0; exits = rows.exits; firsts = rows.firsts }
          ≡ card_out (empty_card (on_strand strand P))
      whole =
          λ i.
          record {
            pattern = filled i;
            m = long i;
            segments = 0;
            exits = (ap (λ (r : Rows). r.exits) alone ∙ ap lones long ∙ sym (exits-lone (length (on_strand strand P)))) i;
            firsts = (ap (λ (r : Rows). r.firsts) alone ∙ sym (firsts-lone (length (on_strand strand P)))) i;
          }

  -- a stretch, with what is told of its rows
  module _ (s : List ℕ) (r : Result Summed Refusal) (told : r ≡ rowed (carding (take (length P) bytes) s)) where
    read : carding (take (length P) bytes) s ≡ carding_on P strand s
    read = ap (λ (Q : List ℕ). carding Q s) (read_is strand P bytes e y) ∙ sym (carding-on P strand y s)

    again : r ≡ rowed (carding_on P strand s)
    again = told ∙ ap rowed read

    pub of-refused : (w : Refusal) → r ≡ Err w → Err w ≡ held (carding_on P strand s)
    of-refused w h = go (carding_on P strand s) (sym h ∙ again)
      where
        go : (o : Outcome Card) → Err w ≡ rowed o → Err w ≡ held o
        go (ok c) p = absurd (false≢true (ap is_ok p))
        go (refused n q) p = ap Err (IfErr-at_err (λ z. w ≡ z) p refl)

    pub of-made : (x : Summed) → r ≡ Ok x
        → Ok (record { pattern = bytes; m = length P; segments = x.segments; exits = x.rows.exits; firsts = x.rows.firsts })
        ≡ held (carding_on P strand s)
    unfolding card_of
    of-made x h = ap Ok whole ∙ ap held (sym is)
      where
        told-on : Ok x ≡ rowed (carding (on_strand strand P) s)
        told-on = sym h ∙ again ∙ ap rowed (carding-on P strand y s)

        sound : Carded (on_strand strand P) s
        sound = (told-accepts (on_strand strand P) s).0 (ap is_ok (sym told-on))

        is : carding_on P strand s ≡ ok (card_of (on_strand strand P) sound.text)
        is = carding-on P strand y s ∙ carded-text (on_strand strand P) s sound

        same : x ≡ summed (card_of (on_strand strand P) sound.text)
        same = IfOk-at_ok (λ z. x ≡ z) (told-on ∙ ap rowed (carded-text (on_strand strand P) s sound)) refl

        whole : record { pattern = bytes; m = length P; segments = x.segments; exits = x.rows.exits; firsts = x.rows.firsts }
            ≡ card_out (card_of (on_strand strand P) sound.text)
        whole = λ i. record { pattern = filled i; m = long i; segments = (same i).segments; exits = (same i).rows.exits; firsts = (same i).rows.firsts }
