-- Two strings compared from the end: what is the same from a place on, and bytes taken two, four and eight at a time.
use Prim.Native.Nat.{ℕ, suc, ◌+◌, ◌-◌, ◌*◌, ◌/◌, ◌%◌, ◌<◌, ◌≤◌}
use native.Mathlib.Numerals.{add-one}
use native.Mathlib.Omega.{arith}
use mathlib.Core.Path.{◌≡◌, sym, ap, ap₂, subst, ◌∙◌}
use mathlib.Core.Bool.{Bool, true, false, not}
use mathlib.Core.List.{List, ◌∷◌}
use borrow.Author.Tests.{eqb-true, eqb-false, not-true, not-false}
use lib.Arith.{digits_div, digits_mod}
use lib.Dec.{eqb}
use lib.ListN.{length, get_or, drop, drop_of_length-le}
use lib.Seq.{drop-cons, drop-drop}
use Rattle.text.specs.Letter.{raised, meant}
use Rattle.text.specs.Compare.{same, alike}
use Rattle.text.specs.FromEnd.{two, four, eight, SameFrom}
use Rattle.text.proofs.Truth.{not-true-false}
use Rattle.text.proofs.Strings.{same-eq, eq-same}
use Rattle.text.proofs.Likes.{meant-length, meant-at, drop-meant}

-- a list of bytes
abbrev pub Bytes : List ℕ → Type 0
Bytes s = (i : ℕ) → get_or s i 0 < 256

-- equal numbers of two digits have equal digits
module _ (c q r p t : ℕ) (l : r < c) (k : t < c) (e : q * c + r ≡ p * c + t) where
  high : q ≡ p
  high = sym (digits_div q l) ∙ ap (λ (n : ℕ). n / c) e ∙ digits_div p k

  low : r ≡ t
  low = sym (digits_mod q l) ∙ ap (λ (n : ℕ). n % c) e ∙ digits_mod p k

two-lt : (s : List ℕ) → Bytes s → (at : ℕ) → two s at < 0x1_0000
unfolding two
two-lt s bytes at = omega (arith, bytes at, bytes (at + 1))

four-lt : (s : List ℕ) → Bytes s → (at : ℕ) → four s at < 0x1_0000_0000
unfolding four
four-lt s bytes at = omega (arith, two-lt s bytes at, two-lt s bytes (at + 2))

pub from-none : (s t : List ℕ) → length s ≡ length t → SameFrom s t (length s)
from-none s t e =
    let l : length s ≤ length s = omega arith in
    let k : length t ≤ length s = omega arith in
    record { even = e; inside = l; behind = drop_of_length-le s l ∙ sym (drop_of_length-le t k) }

module _ (s t : List ℕ) where
  -- one byte more
  pub from_one : (i : ℕ) → SameFrom s t (i + 1) → get_or s i 0 ≡ get_or t i 0 → SameFrom s t i
  from_one i a e =
      let k : i < length s = omega (arith, a.inside) in
      let l : i < length t = omega (arith, a.inside, a.even) in
      let tails : drop (suc i) s ≡ drop (suc i) t = rw add-one at a.behind in
      record {
        even = a.even;
        inside = omega (arith, a.inside);
        behind = drop-cons s i 0 k ∙ ap₂ (λ (c : ℕ) (x : List ℕ). c ∷ x) e tails ∙ sym (drop-cons t i 0 l);
      }

  -- two, four and eight more
  module _ (p : Bytes s) (q : Bytes t) where
    from-two : (i : ℕ) → SameFrom s t (i + 2) → two s i ≡ two t i → SameFrom s t i
    unfolding two
    from-two i a e =
        let f : get_or s (i + 1) 0 * 0x100 + get_or s i 0 ≡ get_or t (i + 1) 0 * 0x100 + get_or t i 0 = omega arith in
        let far : i + 2 ≡ i + 1 + 1 = omega arith in
        from_one i
        (from_one (i + 1) (rw far at a) (high 0x100 _ _ _ _ (p i) (q i) f))
        (low 0x100 _ _ _ _ (p i) (q i) f)

    from-four : (i : ℕ) → SameFrom s t (i + 4) → four s i ≡ four t i → SameFrom s t i
    unfolding four
    from-four i a e =
        let f : two s (i + 2) * 0x1_0000 + two s i ≡ two t (i + 2) * 0x1_0000 + two t i = omega arith in
        let far : i + 4 ≡ i + 2 + 2 = omega arith in
        from-two i
        (from-two (i + 2) (rw far at a) (high 0x1_0000 _ _ _ _ (two-lt s p i) (two-lt t q i) f))
        (low 0x1_0000 _ _ _ _ (two-lt s p i) (two-lt t q i) f)

    pub from-eight : (i : ℕ) → SameFrom s t (i + 8) → eight s i ≡ eight t i → SameFrom s t i
    unfolding eight
    from-eight i a e =
        let f : four s (i + 4) * 0x1_0000_0000 + four s i ≡ four t (i + 4) * 0x1_0000_0000 + four t i = omega arith in
        let far : i + 8 ≡ i + 4 + 4 = omega arith in
        from-four i
        (from-four (i + 4) (rw far at a) (high 0x1_0000_0000 _ _ _ _ (four-lt s p i) (four-lt t q i) f))
        (low 0x1_0000_0000 _ _ _ _ (four-lt s p i) (four-lt t q i) f)

    -- fewer than eight are left of eight or more: the first eight decide
    pub from_first : (i : ℕ) → SameFrom s t i → i < 8 → 8 ≤ length s → eight s 0 ≡ eight t 0 → SameFrom s t 0
    from_first i a l long e = from-eight 0 later e
      where
        later : SameFrom s t (0 + 8)
        later =
            let far : i + (8 - i) ≡ 0 + 8 = omega arith in
            record {
              even = a.even;
              inside = omega arith;
              behind =
                  subst (λ (n : ℕ). drop n s ≡ drop n t) far
                  (sym (drop-drop (8 - i) i s) ∙ ap (drop (8 - i)) a.behind ∙ drop-drop (8 - i) i t);
            }

-- the same bytes mean the same letters
module _ (s t : List ℕ) where
  pub from-meant : (i : ℕ) → SameFrom s t i → SameFrom (meant s) (meant t) i
  from-meant i a =
      record {
        even = meant-length s ∙ a.even ∙ sym (meant-length t);
        inside = rw (meant-length s) a.inside;
        behind = drop-meant i s ∙ ap meant a.behind ∙ sym (drop-meant i t);
      }

  module _ (i : ℕ) {d : Bool} (is : d ≡ not (eqb (raised (get_or s i 0)) (raised (get_or t i 0)))) where
    pub from-letter : SameFrom (meant s) (meant t) (i + 1) → d ≡ false → SameFrom (meant s) (meant t) i
    from-letter a e =
        let u : raised (get_or s i 0) ≡ raised (get_or t i 0) = eqb-true _ _ (not-false _ (sym is ∙ e)) in
        from_one (meant s) (meant t) i a (meant-at s i ∙ u ∙ sym (meant-at t i))

    pub letter-differs : d ≡ true → alike s t ≡ false
    unfolding alike
    letter-differs e =
        let u = eqb-false _ _ (not-true _ (sym is ∙ e)) in
        not-true-false (same (meant s) (meant t))
        (λ f. u (sym (meant-at s i) ∙ ap (λ (x : List ℕ). get_or x i 0) (same-eq (meant s) (meant t) f) ∙ meant-at t i))

  pub from_all : SameFrom (meant s) (meant t) 0 → alike s t ≡ true
  unfolding alike
  from_all a = eq-same (meant s) (meant t) a.behind
