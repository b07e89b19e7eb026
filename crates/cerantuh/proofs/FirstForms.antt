-- What the form of the first hit answers and leaves, from what the search for it tells.
use Prim.Native.Nat.{ℕ, ◌+◌, ◌*◌, ◌^◌, ◌<◌}
use native.Mathlib.Omega.{arith}
use mathlib.Core.Path.{◌≡◌, refl, sym, ap, ◌∙◌}
use mathlib.Core.List.{List}
use lib.ListN.{length}
use Rattle.text.specs.Card.{none}
use Rattle.text.specs.declared.strand.Strand.{Strand}
use Rattle.text.specs.declared.refusal.Refusal.{Refusal}
use Rattle.search.specs.First.{Hit, stop_of, firsting, told_first}
use Rattle.search.specs.declared.first.First.{First}
use Rattle.search.specs.declared.state.State.{State}
use Rattle.cerantuh.specs.Forms.{stop_block, two_into, firsting_into}
use Rattle.cerantuh.proofs.Codes.{firsting-small}
use Rattle.cerantuh.proofs.Rooms.{Answered, two-not, two-met}

module _ (P : List ℕ) (strand : Strand) (st : ℕ) (s block : List ℕ) (x : First) (told : told_first x ≡ firsting P strand st s) where
  -- the bytes of a hit, and what the form promises of its answer and of the block
  abbrev bytes : Hit → List ℕ
  bytes h = stop_block (stop_of h)

  abbrev Form : ℕ → List ℕ → Type 0
  Form = Answered bytes (firsting_into P strand st s (length block)) block

  module _ (w : Refusal) (e : x ≡ First.Refused w) where
    pub first_fits : w.number + 256 * w.place < 2 ^ 64
    first_fits = let small = firsting-small P strand st s _ _ (sym told ∙ ap told_first e) in omega (arith, small)

    pub form-not : (r : ℕ) → r ≡ w.number + 256 * w.place → Form r block
    unfolding firsting_into
    form-not r is = two-not bytes (firsting P strand st s) block _ _ r (sym told ∙ ap told_first e) is

  -- no state is handed on where something ends
  pub form-ends :
      (k r : ℕ) (left : List ℕ) → x ≡ First.Ends k → Answered (λ l. l) (two_into k 0 (length block)) block r left → Form r left
  unfolding firsting_into stop_block
  form-ends k r left e wrote = two-met bytes (firsting P strand st s) block _ _ _ r left (sym told ∙ ap told_first e) refl wrote

  pub form-clear :
      (next : State) (r : ℕ) (left : List ℕ) → x ≡ First.None next →
      Answered (λ l. l) (two_into none next.bits (length block)) block r left → Form r left
  unfolding firsting_into stop_block
  form-clear next r left e wrote = two-met bytes (firsting P strand st s) block _ _ _ r left (sym told ∙ ap told_first e) refl wrote
