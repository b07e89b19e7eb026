-- Laws of the lines of a manifest, one by one.
use Prim.Native.Nat.{ℕ, zero, suc, ◌+◌, ◌≤◌, ◌<◌}
use native.Mathlib.Omega.{arith}
use native.Mathlib.Decide.{dec_lt}
use mathlib.Core.Path.{◌≡◌, refl, ap, ◌∙◌}
use mathlib.Core.Logic.{by_cases}
use mathlib.Core.Bool.{false, ◌||◌}
use mathlib.Core.List.{List, [], ◌∷◌, ◌++◌}
use lib.ListN.{length}
use Rattle.std.proofs.Common.{Option, Some, None, is_err}
use Rattle.manifest.specs.Line.{line_of}
use Rattle.manifest.specs.Lines.{then_lines, lines_from, lines_at, entry_in, entries_in, entries_from, wrong_in, wrong_from}
use Rattle.manifest.specs.Lines.{or_other, first_other, next_of}
use Rattle.manifest.specs.declared.reading.Line.{Line}
use Rattle.manifest.proofs.Entries.{line-none, Placed, placed}

-- those after a line are the same, however many
then_same :
    (at n : ℕ) (l : Option Line) (f g : ℕ → List Line) → Placed at n l → ((next : ℕ) → at < next → f next ≡ g next) →
    then_lines l f ≡ then_lines l g
then_same at n (Some l) f g p h = ap (λ (ls : List Line). l ∷ ls) (h l.next p.1)
then_same at n None f g p h = refl

-- that many are enough, and more are no other
enough : (k j : ℕ) (m : List ℕ) (at : ℕ) → length m ≤ at + k → length m ≤ at + j → lines_from k m at ≡ lines_from j m at
unfolding lines_from
enough zero zero m at a b = refl
enough zero (suc j) m at a b = let none : length m ≤ at = omega arith in rw (← line-none m at none) refl
enough (suc k) zero m at a b = let none : length m ≤ at = omega arith in rw (← line-none m at none) refl
enough (suc k) (suc j) m at a b =
    by_cases (dec_lt at (length m))
    (λ (l : at < length m).
    then_same at (length m) (line_of m at) (λ next. lines_from k m next) (λ next. lines_from j m next) (placed m at l)
    (λ next on. enough k j m next (omega arith) (omega arith)))
    (λ (l : at < length m → ⊥). let none : length m ≤ at = omega arith in rw (← line-none m at none) refl)

module _ (m : List ℕ) (at : ℕ) where
  once : lines_at m at ≡ then_lines (line_of m at) (λ next. lines_at m next)
  unfolding lines_from
  once =
      let a : length m ≤ at + length m = omega arith in
      let b : length m ≤ at + suc (length m) = omega arith in
      enough (length m) (suc (length m)) m at a b

  module _ (e : line_of m at ≡ None) where
    lines_none : lines_at m at ≡ []
    lines_none = once ∙ ap (λ (l : Option Line). then_lines l (λ next. lines_at m next)) e

    pub entries_none : entries_from m at ≡ []
    unfolding entries_from entries_in
    entries_none = rw lines_none refl

    pub wrong-none : wrong_from m at ≡ false
    unfolding wrong_from wrong_in
    wrong-none = rw lines_none refl

    pub next-none : next_of m at ≡ None
    unfolding next_of first_other
    next-none = rw lines_none refl

  module _ {l : Line} (e : line_of m at ≡ Some l) where
    lines_more : lines_at m at ≡ l ∷ lines_at m l.next
    lines_more = once ∙ ap (λ (l : Option Line). then_lines l (λ next. lines_at m next)) e

    pub entries-more : entries_from m at ≡ entry_in m l.said ++ entries_from m l.next
    unfolding entries_from entries_in
    entries-more = ap (entries_in m) lines_more

    pub wrong-more : wrong_from m at ≡ (is_err l.said || wrong_from m l.next)
    unfolding wrong_from wrong_in
    wrong-more = ap wrong_in lines_more

    pub next_more : next_of m at ≡ or_other l l.said (next_of m l.next)
    unfolding next_of first_other
    next_more = ap first_other lines_more
