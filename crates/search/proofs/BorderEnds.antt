-- The end of a variant shorter than the pattern: the lengths at which the pattern's first bases may end it, from its own down.
use Prim.Native.Nat.{ℕ, ◌-◌, ◌≤◌, ◌<◌}
use native.Mathlib.Omega.{arith}
use mathlib.Core.Path.{◌≡◌, sym, ap, ◌∙◌}
use mathlib.Core.Bool.{Bool, true, false, not, false≢true}
use mathlib.Core.List.{List}
use borrow.Author.Tests.{not-true, not-false}
use lib.ListN.{length, take, length-append}
use Rattle.text.specs.Refusal.{SoundPattern}
use Rattle.text.specs.Letter.{meant}
use Rattle.text.specs.Compare.{suffix}
use Rattle.text.specs.Occurrence.{Suffix, Inside}
use Rattle.text.proofs.Strings.{suffix-is, is-suffix}
use Rattle.text.proofs.Likes.{meant-length}
use Rattle.search.specs.Border.{Longest}
use Rattle.search.specs.BorderStep.{Scans}
use Rattle.search.proofs.BorderLetters.{front-meant}
use Rattle.search.proofs.BorderLengths.{ends-length}
use Rattle.search.proofs.BorderStrings.{suffix-none}

-- no length above k is one of them
pub record Ending (P v : List ℕ) (k : ℕ) : Type 0 where
  pub near : k < length P
  pub most : (r : ℕ) → r < length P → Suffix (take r P) v → r ≤ k

module _ {P : List ℕ} (w : List ℕ) (short : length w < length P) where
  pub ending-none : Ending P (meant w) (length w)
  ending-none = record {
    near = short;
    most = λ r l x. omega (arith, ends-length P (meant w) r (let z : r ≤ length P = omega arith in z) x, meant-length w);
  }

  -- the whole pattern does not lie in it
  pub ending-scans : {k : ℕ} → Longest P (meant w) (length P - 1) k → Scans P (meant w) k false
  ending-scans g = record { ends = g; inside = (λ e. absurd (false≢true e), λ h. absurd (outside h)) }
    where
      outside : Inside P (meant w) → ⊥
      outside h = omega (arith, meant-length w, simp length-append at (ap length h.split))

-- the first k bases are asked
module _ {P v : List ℕ} {k : ℕ} {fits : Bool} (sized : SoundPattern P) (g : Ending P v k) (e : fits ≡ suffix (meant (take k P)) v) where
  asked : fits ≡ suffix (take k P) v
  asked = e ∙ ap (λ (p : List ℕ). suffix p v) (front-meant P sized.bases k)

  -- they do not end it
  module _ (t : not fits ≡ true) where
    other : Suffix (take k P) v → ⊥
    other x = false≢true (sym (not-true fits t) ∙ asked ∙ is-suffix (take k P) v x)

    pub ending-some : 0 < k
    ending-some =
        let z : k ≡ 0 → ⊥ = λ (n : k ≡ 0). (rw n at other) (suffix-none P v) in
        omega arith

    pub ending-more : Ending P v (k - 1)
    ending-more = record { near = omega (arith, g.near); most = below }
      where
        below : (r : ℕ) → r < length P → Suffix (take r P) v → r ≤ k - 1
        below r l x =
            let z : r ≡ k → ⊥ = λ (n : r ≡ k). other (rw n at x) in
            omega (arith, g.most r l x)

  -- they do
  pub ending-all : not fits ≡ false → Longest P v (length P - 1) k
  ending-all t = record {
    within = omega (arith, g.near);
    ends = suffix-is (take k P) v (sym asked ∙ not-false fits t);
    most = λ r l x. g.most r (let z : r < length P = omega (arith, g.near) in z) x;
  }
