-- Laws of the window: where a record lies against it.
use Prim.Native.Nat.{ℕ, ◌+◌, ◌-◌, ◌<◌, ◌≤◌, min}
use native.Mathlib.Omega.{arith}
use mathlib.Core.Path.{◌≡◌, sym, ◌∙◌}
use mathlib.Core.Logic.{by_cases}
use native.Mathlib.Decide.{dec_lt}
use mathlib.Core.Bool.{Bool, true, false, ◌||◌, ◌&&◌}
use mathlib.Core.List.{List}
use lib.Dec.{eqb, leb, ltb}
use lib.ListN.{length, take, drop}
use borrow.Author.Tests.{ltb-true, lt-ltb, lt-leb, le-leb, eq-eqb, ne_eqb, leb-true}
use Rattle.text.specs.Letter.{meant}
use Rattle.text.specs.Compare.{same, alike}
use Rattle.text.proofs.Likes.{meant-length}
use Rattle.text.proofs.Strings.{same-eq}
use Rattle.text.proofs.Truth.{and_left, and_right, same_truth}
use Rattle.layout.specs.Bytes.{part}
use Rattle.layout.proofs.Raised.{alike-part}
use Rattle.vcf.specs.Records.{placed, outside, agrees}

-- two tests of orders that hold together
pub same-leb : (a b c d : ℕ) → (a ≤ b → c ≤ d) → (c ≤ d → a ≤ b) → leb a b ≡ leb c d
same-leb a b c d f g =
    same_truth (leb a b) (leb c d) (λ (e : leb a b ≡ true). le-leb c d (f (leb-true a b e)))
    (λ (e : leb c d ≡ true). le-leb a b (g (leb-true c d e)))

module _ (w : List ℕ) (p : ℕ) where
  pub placed-zero : p ≡ 0 → placed w p ≡ false
  unfolding placed
  placed-zero e = rw e

  pub placed-empty : (p ≡ 0 → ⊥) → length w ≡ 0 → placed w p ≡ true
  unfolding placed
  placed-empty n e = rw (lt-ltb 0 p (omega arith), eq-eqb (length w) 0 e)

  pub placed-far : (p ≡ 0 → ⊥) → (length w ≡ 0 → ⊥) → 2147483648 < p → placed w p ≡ false
  unfolding placed
  placed-far n m l = rw (lt-ltb 0 p (omega arith), ne_eqb (length w) 0 m, lt-leb (p + length w) 2147483648 (omega arith))

  pub placed-near : (p ≡ 0 → ⊥) → (length w ≡ 0 → ⊥) → p ≤ 2147483648 → leb (length w) (2147483648 - p) ≡ placed w p
  unfolding placed
  placed-near n m l =
      rw (lt-ltb 0 p (omega arith), ne_eqb (length w) 0 m)
      (same-leb (length w) (2147483648 - p) (p + length w) 2147483648 (λ (h : length w ≤ 2147483648 - p). omega arith)
      (λ (h : p + length w ≤ 2147483648). omega arith))

module _ (w : List ℕ) (p at : ℕ) where
  pub outside-empty : (end : ℕ) → length w ≡ 0 → outside w p at end ≡ true
  unfolding outside
  outside-empty end e = rw (eq-eqb (length w) 0 e)

  pub outside-before : (end : ℕ) → (length w ≡ 0 → ⊥) → end ≤ p → outside w p at end ≡ true
  unfolding outside
  outside-before end n l = rw (ne_eqb (length w) 0 n, le-leb end p l)

  pub outside-early : (end : ℕ) → (length w ≡ 0 → ⊥) → p < end → at < p → outside w p at end ≡ false
  unfolding outside
  outside-early end n l m = rw (ne_eqb (length w) 0 n, lt-leb end p l, lt-leb (p + length w) at (omega arith))

  pub outside_behind : (end : ℕ) → (length w ≡ 0 → ⊥) → p < end → p ≤ at → leb (length w) (at - p) ≡ outside w p at end
  unfolding outside
  outside_behind end n l m =
      rw (ne_eqb (length w) 0 n, lt-leb end p l)
      (same-leb (length w) (at - p) (p + length w) at (λ (h : length w ≤ at - p). omega arith) (λ (h : p + length w ≤ at). omega arith))

  -- REF of that many letters, compared by what they mean
  module _ (r : List ℕ) where
    pub agrees-before : at < p → agrees (meant w) p at (meant r) ≡ false
    unfolding agrees
    agrees-before l = rw (lt-leb p at l)

    far : p ≤ at → p + length w < at + length r → agrees (meant w) p at (meant r) ≡ false
    unfolding agrees
    far l m = rw (meant-length w, meant-length r, le-leb p at l, lt-leb (at + length r) (p + length w) m)

    pub agrees-behind : p ≤ at → length w < at - p → agrees (meant w) p at (meant r) ≡ false
    agrees-behind l m = far l (omega arith)

    pub agrees-over : p ≤ at → at - p ≤ length w → length w - (at - p) < length r → agrees (meant w) p at (meant r) ≡ false
    agrees-over l m n = far l (omega arith)

    pub agrees-is :
        p ≤ at → at - p ≤ length w → length r ≤ length w - (at - p) →
        (b : Bool) → b ≡ alike r (take (at - p + length r - (at - p)) (drop (at - p) w)) → b ≡ agrees (meant w) p at (meant r)
    unfolding agrees
    agrees-is l m n b e =
        let z : at - p + length r - (at - p) ≡ length r = omega arith in
        let inside : at + length r ≤ p + length w = omega arith in
        rw (meant-length w, meant-length r, le-leb p at l, le-leb (at + length r) (p + length w) inside)
        (e ∙ alike-part r w (at - p) (at - p + length r - (at - p)) ∙ rw z)

-- raised letters are as many
pub placed-meant : (w : List ℕ) (p : ℕ) → placed (meant w) p ≡ placed w p
unfolding placed
placed-meant w p = rw (meant-length w)

-- a window that is placed has a position
pub placed-some : (w : List ℕ) (p : ℕ) → placed w p ≡ true → 0 < p
unfolding placed
placed-some w p e = ltb-true 0 p (and_left (ltb 0 p) (eqb (length w) 0 || leb (p + length w) 2147483648) e)

-- a placed window that has a base lies below 2 ^ 31
pub placed-small : (w : List ℕ) (p : ℕ) → placed w p ≡ true → (length w ≡ 0 → ⊥) → p + length w ≤ 2147483648
unfolding placed
placed-small w p e n =
    let h : leb (p + length w) 2147483648 ≡ true =
    rw (ne_eqb (length w) 0 n) at (and_right (ltb 0 p) (eqb (length w) 0 || leb (p + length w) 2147483648) e) in
    leb-true (p + length w) 2147483648 h

-- the same of a position that is cut at one after every window
pub outside-capped : (w : List ℕ) (p at end : ℕ) → placed w p ≡ true → outside w p at (min 4294967296 end) ≡ outside w p at end
unfolding outside
outside-capped w p at end e =
    by_cases (dec_lt 0 (length w))
    (λ (l : 0 < length w).
    let s : p + length w ≤ 2147483648 = placed-small w p e (λ (z : length w ≡ 0). omega arith) in
    rw (same-leb (min 4294967296 end) p end p (λ (h : min 4294967296 end ≤ p). omega arith) (λ (h : end ≤ p). omega arith)))
    (λ (l : ¬ (0 < length w)). rw (eq-eqb (length w) 0 (omega arith)))

pub outside-some : (w : List ℕ) (p at end : ℕ) → outside w p at end ≡ false → length w ≡ 0 → ⊥
unfolding outside
outside-some w p at end e z =
    let y : true ≡ false = sym (rw (eq-eqb (length w) 0 z)) ∙ e in absurd (let x : ◌≡◌ {A = ℕ} 0 1 = cc in let u : ⊥ = omega arith in u)

pub agrees-inside : (w : List ℕ) (p at : ℕ) (r : List ℕ) → agrees w p at r ≡ true → (p ≤ at) × (at + length r ≤ p + length w)
unfolding agrees
agrees-inside w p at r e =
    let a : Bool = leb p at in
    let b : Bool = leb (at + length r) (p + length w) in
    let s : Bool = same r (part w (at - p) (length r)) in
    let ab : (a && b) ≡ true = and_left (a && b) s e in
    (leb-true p at (and_left a b ab), leb-true (at + length r) (p + length w) (and_right a b ab))

pub agrees-stands : (w : List ℕ) (p at : ℕ) (r : List ℕ) → agrees w p at r ≡ true → r ≡ part w (at - p) (length r)
unfolding agrees
agrees-stands w p at r e =
    let a : Bool = leb p at && leb (at + length r) (p + length w) in
    same-eq r (part w (at - p) (length r)) (and_right a (same r (part w (at - p) (length r))) e)
