-- Laws of cutting a list into pieces, one after another, and of the sums of their lengths.
use Prim.Native.Nat.{ℕ, suc, ◌+◌, ◌-◌, ◌<◌, ◌≤◌}
use native.Mathlib.Numerals.{add-one}
use native.Mathlib.Omega.{arith}
use mathlib.Core.Path.{◌≡◌, refl, ap, ◌∙◌}
use mathlib.Core.List.{List, [], ◌∷◌, ◌++◌}
use lib.ListN.{length, take, drop, get_or, length-take, length-drop}
use lib.Seq.{drop-cons, drop-drop}
use Rattle.text.specs.Text.{total}
use Rattle.text.proofs.Sizes.{total-append}
use Rattle.layout.specs.Bytes.{part}
use Rattle.layout.proofs.Stands.{part-add}
use Rattle.writer.specs.Cuts.{cut, sum, sum_from, pieces, Within, Behind}

-- some numbers and then the rest
pub cut-append : {A : Type 0} (ms ns : List ℕ) (l : List A) → cut (ms ++ ns) l ≡ cut ms l ++ cut ns (drop (sum ms) l)
unfolding cut total
cut-append [] ns l = refl
cut-append (m ∷ ms) ns l = rw (cut-append ms ns (drop m l), drop-drop)

pub length_cut : {A : Type 0} (ns : List ℕ) (l : List A) → length (cut ns l) ≡ length ns
unfolding cut
length_cut [] l = refl
length_cut (n ∷ ns) l = ap suc (length_cut ns (drop n l))

part-first : (ns : List ℕ) (k n : ℕ) → k < length ns → part ns k (suc n) ≡ get_or ns k 0 ∷ part ns (k + 1) n
part-first ns k n l = rw (add-one, drop-cons ns k 0)

sum_one : (ns : List ℕ) (k : ℕ) → k < length ns → sum_from ns k 1 ≡ get_or ns k 0
unfolding total
sum_one ns k l = rw (part-first ns k 0) (omega arith)

pub sum_first : (ns : List ℕ) (k n : ℕ) → k < length ns → sum_from ns k (suc n) ≡ get_or ns k 0 + sum_from ns (k + 1) n
unfolding total
sum_first ns k n l = rw (part-first ns k n)

module _ (ns : List ℕ) (k : ℕ) where
  sum-none : sum_from ns k 0 ≡ 0
  unfolding total
  sum-none = refl

  sum-add : (i n : ℕ) → sum_from ns k (i + n) ≡ sum_from ns k i + sum_from ns (k + i) n
  sum-add i n = rw (part-add ns k i n) (total-append (λ n. n) (part ns k i) (part ns (k + i) n))

  sum-next : (i : ℕ) → k + i < length ns → sum_from ns k (i + 1) ≡ sum_from ns k i + get_or ns (k + i) 0
  sum-next i l = omega (arith, sum-add i 1, sum_one ns (k + i) l)

  sum-le : (i n : ℕ) → i ≤ n → sum_from ns k i ≤ sum_from ns k n
  sum-le i n l =
      let e : n ≡ i + (n - i) = omega arith in
      omega (arith, ap (sum_from ns k) e, sum-add i (n - i))

-- the piece after i others, which begins at place `next`, lies inside, and so do those before it
module _ {size : ℕ} {ns : List ℕ} {k at i next : ℕ} (b : Behind size ns k at i next) where
  number_in : k + i < length ns
  number_in = omega (arith, b.within.listed)

  pub next-in : {m : ℕ} → m ≡ get_or ns (k + i) 0 → next + m ≤ size
  next-in e = omega (arith, b.within.inside, sum-next ns k i number_in)

  pub before-in : Within size ns k at i
  before-in =
      let h = sum-next ns k i number_in in
      record { listed = omega (arith, b.within.listed); inside = omega (arith, b.within.inside) }

-- i of the n pieces from number k on are passed, and the next begins at place `next`
pub record Passing (size : ℕ) (ns : List ℕ) (k at n i next : ℕ) : Type 0 where
  pub whole : Within size ns k at n
  pub most : i ≤ n
  pub begins : next ≡ at + sum_from ns k i

pub passing-none : {size : ℕ} {ns : List ℕ} {k at n : ℕ} → Within size ns k at n → Passing size ns k at n 0 at
passing-none {ns} {k} w = record { whole = w; most = omega arith; begins = omega (arith, sum-none ns k) }

module _ {size : ℕ} {ns : List ℕ} {k at n i next : ℕ} (p : Passing size ns k at n i next) (l : i < n) where
  pub passing-behind : Behind size ns k at i next
  passing-behind =
      let more : i + 1 ≤ n = omega arith in
      let least = sum-le ns k (i + 1) n more in
      record { within = record { listed = omega (arith, p.whole.listed); inside = omega (arith, p.whole.inside) }; begins = p.begins }

  pub passing-number : k + i < length ns
  passing-number = number_in passing-behind

  -- the next one, of length m
  module _ {m : ℕ} (e : m ≡ get_or ns (k + i) 0) where
    pub passing-inside : next + m ≤ size
    passing-inside = next-in passing-behind e

    pub passing-more : Passing size ns k at n (i + 1) (next + m)
    passing-more =
        let step = sum-next ns k i passing-number in
        record { whole = p.whole; most = omega arith; begins = omega (arith, p.begins) }

-- a part of a list, as a slice hands it on
pub part_slice : (l : List ℕ) (at n : ℕ) → take (at + n - at) (drop at l) ≡ part l at n
part_slice l at n = let h : at + n - at ≡ n = omega arith in rw h

pub length_part : (l : List ℕ) (at n : ℕ) → at + n ≤ length l → length (part l at n) ≡ n
length_part l at n h = simp (length-take, length-drop) (omega arith)

module _ (l ns : List ℕ) (k at : ℕ) where
  pub length-pieces : (n : ℕ) → k + n ≤ length ns → length (pieces l ns k at n) ≡ n
  length-pieces n h = length_cut (part ns k n) (drop at l) ∙ length_part ns k n h

  pub pieces-first :
      (n : ℕ) → k < length ns →
      pieces l ns k at (suc n) ≡ part l at (get_or ns k 0) ∷ pieces l ns (k + 1) (at + get_or ns k 0) n
  unfolding cut
  pieces-first n h = rw (part-first ns k n, drop-drop)

-- the rest of n pieces after i of them: the next, and the rest after it
pub pieces-rest :
    (l ns : List ℕ) (k at n i : ℕ) → i < n → k + i < length ns →
    pieces l ns (k + i) at (n - i) ≡ part l at (get_or ns (k + i) 0) ∷ pieces l ns (k + (i + 1)) (at + get_or ns (k + i) 0) (n - (i + 1))
pieces-rest l ns k at n i h h' =
    let e : n - i ≡ suc (n - (i + 1)) = omega arith in
    let f : k + (i + 1) ≡ k + i + 1 = omega arith in
    rw (e, f) (pieces-first l ns (k + i) at (n - (i + 1)) h')

pub pieces-over : (l ns : List ℕ) (k at n i : ℕ) → n ≤ i → pieces l ns k at (n - i) ≡ []
unfolding cut
pieces-over l ns k at n i h = let e : n - i ≡ 0 = omega arith in rw e
