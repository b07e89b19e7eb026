-- What the feed form answers and leaves, from what the feed tells.
use Prim.Native.Nat.{ℕ, ◌+◌, ◌*◌, ◌^◌, ◌<◌}
use native.Mathlib.Omega.{arith}
use mathlib.Core.Path.{◌≡◌, sym, ap, ◌∙◌}
use mathlib.Core.Bool.{Bool, cond}
use mathlib.Core.List.{List, ◌++◌}
use lib.ListN.{length}
use mir.Val.{bool_byte}
use Rattle.text.specs.declared.strand.Strand.{Strand}
use Rattle.text.specs.declared.refusal.Refusal.{Refusal}
use Rattle.search.specs.Answers.{feeding, told_fed}
use Rattle.search.specs.declared.state.Fed.{Fed}
use Rattle.search.specs.declared.state.State.{State}
use Rattle.cerantuh.specs.Forms.{low_first, next_block, two_into, feeding_into}
use Rattle.search.proofs.Searches.{byte-mark}
use Rattle.cerantuh.proofs.Codes.{feeding-small}
use Rattle.cerantuh.proofs.Rooms.{Answered, two-not, two-met}

module _ (P : List ℕ) (strand : Strand) (st : ℕ) (s block : List ℕ) (x : Fed) (told : told_fed x ≡ feeding P strand st s) where
  -- what the feed form promises of its answer and of the block
  abbrev Form : ℕ → List ℕ → Type 0
  Form = Answered next_block (feeding_into P strand st s (length block)) block

  module _ (w : Refusal) (e : x ≡ Fed.Refused w) where
    pub fed-fits : w.number + 256 * w.place < 2 ^ 64
    fed-fits = let small = feeding-small P strand st s _ _ (sym told ∙ ap told_fed e) in omega (arith, small)

    pub form-not : (r : ℕ) → r ≡ w.number + 256 * w.place → Form r block
    unfolding feeding_into
    form-not r is = two-not next_block (feeding P strand st s) block _ _ r (sym told ∙ ap told_fed e) is

  pub form-met :
      (next : State) (ends : Bool) (r : ℕ) (left : List ℕ) → x ≡ Fed.Next next ends →
      Answered (λ l. l) (two_into next.bits (bool_byte ends) (length block)) block r left → Form r left
  unfolding feeding_into next_block
  form-met next ends r left e wrote =
      let bytes : low_first 8 next.bits ++ low_first 8 (cond ends 1 0) ≡ low_first 8 next.bits ++ low_first 8 (bool_byte ends) =
      rw (byte-mark ends) in
      two-met next_block (feeding P strand st s) block _ _ _ r left (sym told ∙ ap told_fed e) bytes wrote
