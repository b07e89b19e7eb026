-- What the functions answer of the calls' answers, where that is no matter of unfolding.
use Rattle.std.proofs.Common.{◌≡◌, ℕ, Bool, true, false, List, sym, ap, ◌∙◌, eq-eqb, ne_eqb}
use mathlib.Core.Bool.{false≢true}
use mir.Val.{bool_byte}
use Rattle.text.specs.Compare.{same}
use Rattle.text.proofs.Strings.{same-eq, eq-same}
use Rattle.text.proofs.Truth.{not-true-false}
use Rattle.stretch.specs.declared.reading.Got.{Got}
use Rattle.search.specs.declared.state.State.{State}
use Rattle.search.specs.declared.state.Fed.{Fed}
use Rattle.test_tally.specs.Answers.{refused_as, told_as, held_as, got_as, fed_as}
use Rattle.test_tally.specs.declared.answers.Answer.{Answer}

pub fed-told : (r : Fed) (s : State) (b : Bool) → r ≡ Fed.Next s b → told_as s.bits (bool_byte b) 0 ≡ fed_as r
fed-told r s true e = sym (ap fed_as e)
fed-told r s false e = sym (ap fed_as e)

module _ (r : Got) (letters start len j v : ℕ) (e : r ≡ Got.Variant start len j v) where
  pub got_other : (len ≡ letters → ⊥) → refused_as 100 1 ≡ got_as r letters
  got_other h = rw (e, ne_eqb len letters h)

  pub got-part : len ≡ letters → told_as start j v ≡ got_as r letters
  got-part h = rw (e, eq-eqb len letters h)

module _ (a : Answer) (buffer wanted : List ℕ) (t : Bool) (f : (t ≡ true → buffer ≡ wanted) × (buffer ≡ wanted → t ≡ true)) where
  pub held_same : t ≡ true → a ≡ held_as a buffer wanted
  held_same e = rw (eq-same buffer wanted (f.0 e))

  pub held-other : t ≡ false → refused_as 100 0 ≡ held_as a buffer wanted
  held-other e =
      let no : same buffer wanted ≡ false = not-true-false (same buffer wanted)
      (λ y. false≢true (sym e ∙ f.1 (same-eq buffer wanted y))) in
      rw no
