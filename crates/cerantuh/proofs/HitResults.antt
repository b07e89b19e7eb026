-- What a first hit that is accepted tells: a segment that is never taken for "none", or a state that the next call takes.
use Prim.Native.Nat.{ℕ, ◌<◌}
use mathlib.Core.Path.{◌≡◌, refl, sym, ap, ◌∙◌, subst}
use mathlib.Core.Bool.{Bool, true, false, cond, true≢false, false≢true}
use mathlib.Core.List.{List}
use borrow.Author.Tests.{ltb-true}
use lib.Dec.{leb, ltb}
use lib.ListN.{length}
use Rattle.text.specs.Card.{none}
use Rattle.text.specs.Refusal.{Outcome, ok, demand, after}
use Rattle.text.specs.State.{is_state, run}
use Rattle.text.specs.Strand.{on_strand}
use Rattle.text.specs.Text.{Text}
use Rattle.text.specs.declared.strand.Strand.{Strand}
use Rattle.text.proofs.Outcomes.{ok-inj, demand-met, after-met, told-met}
use Rattle.text.proofs.Strands.{strand-length, strand-sound}
use Rattle.layout.specs.Reading.{stretch_of}
use Rattle.search.specs.Answers.{entering}
use Rattle.search.specs.First.{Hit, ends_in, clear, stop_of, first_in, hitting, firsting}
use Rattle.search.proofs.Chains.{run-state}
use Rattle.search.proofs.Entries.{Entered, entering-after, entered}
use Rattle.cerantuh.specs.Forms.{firsting_into}

abbrev found : Hit → Bool
found (ends_in k) = true
found (clear st) = false

-- the first hit at f, if that is one; else what is read, and the state after it
module _ (f : ℕ) (o : Outcome Text) (behind : Text → ℕ) where
  below : (b : Bool) (k : ℕ) → ltb f none ≡ b → cond b (ok (ends_in f)) (after o (λ t. ok (clear (behind t)))) ≡ ok (ends_in k) → k < none
  below true k l e =
      let same : f ≡ k = ap (λ (h : Hit). (stop_of h).segment) (ok-inj e) in
      subst (λ (j : ℕ). j < none) same (ltb-true f none l)
  below false k l e = let x = told-met o (λ t. clear (behind t)) (ends_in k) e in absurd (false≢true (ap found x.2))

  reached : (b : Bool) (next : ℕ) → cond b (ok (ends_in f)) (after o (λ t. ok (clear (behind t)))) ≡ ok (clear next)
      → (t : Text) × (behind t ≡ next)
  reached true next e = absurd (true≢false (ap found (ok-inj e)))
  reached false next e =
      let x = told-met o (λ t. clear (behind t)) (clear next) e in (x.0, ap (λ (h : Hit). (stop_of h).state) x.2)

module _ (P : List ℕ) (strand : Strand) (st : ℕ) (s : List ℕ) (block : ℕ) where
  abbrev read : List ℕ
  read = on_strand strand P

  -- what was accepted has entered, and is the first hit
  accepted : (h : Hit) → firsting_into P strand st s block ≡ ok h → Entered P st s × (hitting read st s ≡ ok h)
  unfolding firsting_into firsting
  accepted h e =
      let x = after-met (entering P st s (hitting read st s)) (λ a. demand (leb 16 block) 10 0 (ok a)) h e in
      let same : x.0 ≡ h = ok-inj (demand-met (leb 16 block) 10 0 (ok x.0) h x.2).1 in
      let y = after-met (entering P st s (ok (tt {0}))) (λ _. hitting read st s) h
      (sym (entering-after P st s (hitting read st s)) ∙ x.1 ∙ ap ok same) in
      (entered P st s y.1, y.2)

  pub segment-below : (k : ℕ) → firsting_into P strand st s block ≡ ok (ends_in k) → k < none
  unfolding hitting
  segment-below k e =
      below (first_in read st s) (stretch_of s) (run read st) (ltb (first_in read st s) none) k refl (accepted (ends_in k) e).1

  pub state-handed : (next : ℕ) → firsting_into P strand st s block ≡ ok (clear next) → is_state (length P) next ≡ true
  unfolding hitting
  state-handed next e =
      let a = accepted (clear next) e in
      let t = reached (first_in read st s) (stretch_of s) (run read st) (ltb (first_in read st s) none) next a.1 in
      let long : length read ≡ length P = strand-length strand P in
      let before : is_state (length read) st ≡ true = ap (λ (m : ℕ). is_state m st) long ∙ a.0.state in
      ap (λ (n : ℕ). is_state (length P) n) (sym t.1) ∙ ap (λ (m : ℕ). is_state m (run read st t.0)) (sym long)
      ∙ run-state read (strand-sound strand P a.0.sound) st t.0 before
