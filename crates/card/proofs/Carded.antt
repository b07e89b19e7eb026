-- A stretch of which rows, or a card, are told: it is sound, and so is the pattern.
use Prim.Native.Nat.{ℕ, ◌^◌, ◌<◌, ◌≤◌}
use native.Mathlib.Omega.{arith}
use mathlib.Core.Path.{◌≡◌, refl, sym, ap, ◌∙◌}
use mathlib.Core.Logic.{◌↔◌}
use mathlib.Core.List.{List}
use lib.Dec.{leb, ltb}
use lib.ListN.{length}
use Rattle.text.specs.Letter.{base, every, first_not}
use Rattle.text.specs.Text.{Text}
use Rattle.text.specs.Refusal.{Outcome, ok, refused, after, pattern, greatest_pattern, SoundPattern}
use Rattle.text.specs.Card.{Row, Card, dead, row, ran, card_of}
use Rattle.text.proofs.Outcomes.{after-met}
use Rattle.text.proofs.Patterns.{pattern-sound, pattern-after, sound-pattern}
use Rattle.text.proofs.Rows.{rows_of-from}
use Rattle.text.proofs.TextCards.{row-text}
use Rattle.layout.specs.Reading.{stretch_of}
use Rattle.layout.proofs.Refusals.{stretch-low}
use Rattle.card.specs.declared.rows.start.Rows.{Rows}
use Rattle.card.specs.declared.rows.passes.Summed.{Summed}
use Rattle.std.specs.Result.{IsOk, is_ok}
use Rattle.std.proofs.Common.{Ok}
use mathlib.Core.Bool.{false≢true}
use Rattle.card.specs.Answers.{made}
use Rattle.card.specs.Held.{rows_in}
use Rattle.card.specs.Rows.{carding, summed, rowed}
use Rattle.card.proofs.Numbers.{Numbered, demand-numbered}
use Rattle.card.proofs.RowsHeld.{rows_out}

module _ (P s : List ℕ) where
  -- a refusal has a number
  carding-numbered : Numbered (carding P s)
  unfolding carding pattern
  carding-numbered =
      demand-numbered (ltb 0 (length P)) 1 0 _ (λ e. omega arith)
      (demand-numbered (leb (length P) greatest_pattern) 2 0 _ (λ e. omega arith)
      (demand-numbered (every base P) 3 (first_not base P) _ (λ e. omega arith) (read (stretch_of s) refl)))
    where
      read : (o : Outcome Text) → stretch_of s ≡ o → Numbered (after o (λ t. ok (card_of P t)))
      read (ok t) e = tt
      read (refused n p) e = λ z. omega (arith, stretch-low s n p e)

  -- what an acceptance says
  pub record Carded : Type 0 where
    pub sound : SoundPattern P
    pub text : Text
    pub read : stretch_of s ≡ ok text

  pub carded-text : (c : Carded) → carding P s ≡ ok (card_of P c.text)
  unfolding carding
  carded-text c = sound-pattern P c.sound (after (stretch_of s) (λ t. ok (card_of P t))) ∙ rw c.read

  pub carded : (made (carding P s)).refusal.number ≡ 0 → Carded
  unfolding carding
  carded z = either (carding P s) refl carding-numbered z
    where
      met : (c : Card) → carding P s ≡ ok c → Carded
      met c e =
          let (_, f, g) =
          after-met (pattern P (ok (tt {0}))) (λ _. after (stretch_of s) (λ t. ok (card_of P t))) c (sym (pattern-after P _) ∙ e) in
          let (t, h, _) = after-met (stretch_of s) (λ t. ok (card_of P t)) c g in
          record { sound = pattern-sound P f; text = t; read = h }

      either : (o : Outcome Card) → carding P s ≡ o → Numbered o → (made o).refusal.number ≡ 0 → Carded
      either (ok c) e k z = met c e
      either (refused n p) e k z = absurd (k z)

  pub told-accepts : IsOk (rowed (carding P s)) ↔ Carded
  told-accepts = (λ k. carded (numbered (carding P s) k), λ c. ap (λ (o : Outcome Card). is_ok (rowed o)) (carded-text c))
    where
      numbered : (o : Outcome Card) → IsOk (rowed o) → (made o).refusal.number ≡ 0
      numbered (ok c) k = refl
      numbered (refused n p) k = absurd (false≢true k)

-- the rows that are told of a text
module _ (P s : List ℕ) (T : Text) (sound : SoundPattern P) (e : stretch_of s ≡ ok T) where
  same : rowed (carding P s) ≡ Ok (summed (card_of P T))
  same = ap rowed (carded-text P s (record { sound = sound; text = T; read = e }))

  held : (q : ℕ) → let r : Rows = (summed (card_of P T)).rows in row (rows_in r.exits r.firsts) q ≡ row (card_of P T).rows q
  held q = ap (λ (rows : List Row). row rows q) (rows_out (card_of P T).rows)

  pub told-row : (q : ℕ) → q < length P
      → (x : Summed) × (rowed (carding P s) ≡ Ok x) × (row (rows_in x.rows.exits x.rows.firsts) q ≡ ran P (2 ^ q) T)
  told-row q l = (summed (card_of P T), same, held q ∙ row-text P T sound.some sound.short q l)

  pub told-idle : (q : ℕ) → length P ≤ q
      → (x : Summed) × (rowed (carding P s) ≡ Ok x) × (row (rows_in x.rows.exits x.rows.firsts) q ≡ dead)
  unfolding card_of
  told-idle q far = (summed (card_of P T), same, held q ∙ rows_of-from (length P) (λ q. ran P (2 ^ q) T) q far)
