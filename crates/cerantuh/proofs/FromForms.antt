-- What the form of a search from a state answers and leaves, from what the search tells.
use Prim.Native.Nat.{ℕ, ◌+◌, ◌*◌, ◌^◌, ◌≤◌, ◌<◌}
use native.Mathlib.Omega.{arith}
use mathlib.Core.Path.{◌≡◌, refl, sym, ap, ◌∙◌}
use mathlib.Core.List.{List}
use lib.ListN.{length}
use Rattle.text.specs.Text.{Text}
use Rattle.text.specs.State.{marks_from}
use Rattle.text.specs.Strand.{on_strand}
use Rattle.text.specs.Refusal.{ok, after}
use Rattle.text.specs.declared.strand.Strand.{Strand}
use Rattle.text.specs.declared.refusal.Refusal.{Refusal}
use Rattle.text.proofs.Outcomes.{told-met, told-refused}
use Rattle.layout.specs.Bytes.{over}
use Rattle.layout.specs.Bytes.{left_by}
use Rattle.search.specs.Answers.{Seen, seeking, seen_from, told_sought}
use Rattle.search.specs.declared.state.Sought.{Sought}
use Rattle.search.specs.declared.state.State.{State}
use Rattle.cerantuh.specs.Forms.{coded, low_first, seen_block, seeking_into}
use Rattle.cerantuh.proofs.Blocks.{four-put}
use Rattle.cerantuh.proofs.Codes.{Small, seeking-coded, coded-fits, refused-small}
use Rattle.cerantuh.proofs.Rooms.{told-code, Formed, formed, seek-room, seek-short, seek-left}

-- what is told of a search from a state, and left in its block
abbrev Told : Sought → ℕ → List ℕ → List ℕ → Type 0
Told x r d left = (r ≡ coded (told_sought x)) × (left ≡ left_by seen_block (told_sought x) d)

module _ (x : Sought) (d : List ℕ) where
  pub told-not : (w : Refusal) (r : ℕ) → x ≡ Sought.Refused w → r ≡ w.number + 256 * w.place → Told x r d d
  told-not w r e is = rw e (is, refl)

  pub told-fits : (w : Refusal) → x ≡ Sought.Refused w → coded (told_sought x) < 2 ^ 64 → w.number + 256 * w.place < 2 ^ 64
  told-fits w e l = rw e at l

  pub told-put :
      (n z m : ℕ) (st : State) (a b c left : List ℕ) → x ≡ Sought.Marked n z m st → 32 ≤ length d →
      a ≡ over d 0 (low_first 8 n) → b ≡ over a 8 (low_first 8 z) → c ≡ over b 16 (low_first 8 m) → left ≡ over c 24 (low_first 8 st.bits) →
      Told x 0 d left
  unfolding seen_block
  told-put n z m st a b c left e l f g h k = rw e (refl, k ∙ rw (h, g, f) (four-put d n z m st.bits (omega arith)))

module _ (P : List ℕ) (strand : Strand) (st : ℕ) (s : List ℕ) where
  -- what is seen of a text from the state
  abbrev seen : Text → Seen
  seen = seen_from (on_strand strand P) st

  -- without room for any mark or result: what the search refuses, and 10 where it refuses nothing
  module _ (x : Sought) (told : told_sought x ≡ after (seeking P st s 0) (λ t. ok (seen t))) where
    pub roomless-fits : (w : Refusal) → x ≡ Sought.Refused w → w.number + 256 * w.place < 2 ^ 64
    roomless-fits w e =
        let small : Small w.number w.place =
        refused-small (seeking P st s 0) w.number w.place (seeking-coded P st s 0)
        (told-refused (seeking P st s 0) seen w.number w.place (sym told ∙ ap told_sought e)) in
        omega (arith, small)

    pub roomless-not : (w : Refusal) (r : ℕ) → x ≡ Sought.Refused w → r ≡ w.number + 256 * w.place → r ≡ coded (seeking_into P st s 0 0)
    unfolding seeking_into
    roomless-not w r e is = rw (told-refused (seeking P st s 0) seen w.number w.place (sym told ∙ ap told_sought e)) is

    pub roomless-met : (n z m : ℕ) (b : State) → x ≡ Sought.Marked n z m b → 10 ≡ coded (seeking_into P st s 0 0)
    unfolding seeking_into
    roomless-met n z m b e = let t = told-met (seeking P st s 0) seen _ (sym told ∙ ap told_sought e) in rw t.1

  module _ (marks block : List ℕ) where
    -- what the form promises of its answer, of the mark buffer and of the block
    abbrev Form : ℕ → List ℕ → List ℕ → Type 0
    Form = Formed (marks_from (on_strand strand P) st) seen seen_block (seeking_into P st s (length marks) (length block)) marks block

    pub form-short : (r : ℕ) → length block < 32 → r ≡ coded (seeking_into P st s 0 0) → Form r marks block
    form-short r l is =
        let none : 0 < 32 = omega arith in (
          is ∙ ap coded (seek-short P st s 0 0 none ∙ sym (seek-short P st s (length marks) (length block) l)),
          (
            sym (seek-left P st s (length marks) (length block) (marks_from (on_strand strand P) st) marks l),
            sym (seek-left P st s (length marks) (length block) (λ t. seen_block (seen t)) block l),
          ),
        )

    module _ (x : Sought) (told : told_sought x ≡ after (seeking P st s (length marks)) (λ t. ok (seen t))) where
      pub sought-fits : coded (told_sought x) < 2 ^ 64
      sought-fits =
          rw told
          (rw (told-code (seeking P st s (length marks)) seen)
          (coded-fits (seeking P st s (length marks)) (seeking-coded P st s (length marks))))

      pub form-room :
          (r : ℕ) (marks' block' : List ℕ) → 32 ≤ length block →
          marks' ≡ left_by (marks_from (on_strand strand P) st) (seeking P st s (length marks)) marks →
          Told x r block block' → Form r marks' block'
      form-room r marks' block' l wrote (is, left) =
          rw (seek-room P st s (length marks) (length block) l)
          (formed (marks_from (on_strand strand P) st) seen seen_block (seeking P st s (length marks)) marks block
          (told_sought x) told r marks' block'
          wrote is left)
