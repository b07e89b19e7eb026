-- One segment's step and end, as relations: what a bit of the next state and an end in a segment say.
-- In proofs "q is carried to r by w" is `take r P ≡ take q P ++ w`.
use Prim.Native.Nat.{ℕ, zero, suc, ◌+◌, ◌^◌, ◌<◌, ◌≤◌}
use native.Mathlib.Omega.{arith}
use mathlib.Core.Path.{◌≡◌, sym, ap, ◌∙◌}
use mathlib.Core.Logic.{⊎_elim}
use mathlib.Core.Bool.{Bool, true, ◌&&◌}
use mathlib.Core.List.{List, ◌++◌, append_cancel_left}
use borrow.Author.Tests.{ltb-true, lt-ltb, eqb-true, eq-eqb}
use lib.Dec.{eqb, ltb}
use lib.ListN.{length, take, drop, length-append}
use lib.Seq.{take-add, take-append_seam, take-take, length-take-le}
use Rattle.text.specs.Text.{Variant, Segment}
use Rattle.text.specs.Compare.{same, prefix, suffix, inside}
use Rattle.text.specs.Occurrence.{Prefix, Suffix, Inside, Some}
use Rattle.text.specs.Bits.{bit, any_below, any_of}
use Rattle.text.specs.State.{brings, sends, carries, next_bit, next, ends_at, ends}
use Rattle.text.proofs.Truth.{or_cases, or_left, or_right, and_left, and_right, and_both, any_of-some, some-any_of, any_below-some}
use Rattle.text.proofs.Truth.{some-any_below, Below}
use Rattle.text.proofs.Bits.{bit-from_bits, from_bits-lt}
use Rattle.text.proofs.Strings.{same-eq, eq-same, prefix-is, is-prefix, suffix-is, is-suffix, inside_is, is-inside}

-- the lengths in a split of the first r bases
pub split-length : (P a b : List ℕ) (r : ℕ) → r ≤ length P → take r P ≡ a ++ b → r ≡ length a + length b
split-length P a b r l e = sym (length-take-le r P l) ∙ ap length e ∙ length-append a b

-- the first part of a split of the first r bases is itself the first bases
pub split-front : (P a b : List ℕ) (r : ℕ) → r ≤ length P → take r P ≡ a ++ b → take (length a) P ≡ a
split-front P a b r l e =
    let long : r ≡ length a + length b = split-length P a b r l e in
    let within : length a ≤ r = omega arith in
    sym (take-take (length a) r P within) ∙ ap (take (length a)) e ∙ take-append_seam a b

sends-is : (P : List ℕ) (q : ℕ) (s : Variant) (r : ℕ) → sends P q s r ≡ true → take r P ≡ take q P ++ s
unfolding sends
sends-is P q s r e =
    ap (λ (n : ℕ). take n P) (sym far) ∙ take-add q (length s) P ∙ ap (λ (w : List ℕ). take q P ++ w) (sym spelt)
  where
    far : q + length s ≡ r
    far = eqb-true (q + length s) r (and_left (eqb (q + length s) r) (same s (take (length s) (drop q P))) e)

    spelt : s ≡ take (length s) (drop q P)
    spelt =
        same-eq s (take (length s) (drop q P)) (and_right (eqb (q + length s) r) (same s (take (length s) (drop q P))) e)

is-sends : (P : List ℕ) (q : ℕ) (s : Variant) (r : ℕ) → q ≤ length P → r ≤ length P → take r P ≡ take q P ++ s → sends P q s r ≡ true
unfolding sends
is-sends P q s r lq lr e =
    and_both (eqb (q + length s) r) (same s (take (length s) (drop q P)))
    (eq-eqb (q + length s) r far)
    (eq-same s (take (length s) (drop q P)) spelt)
  where
    far : q + length s ≡ r
    far = omega (arith, split-length P (take q P) s r lr e, length-take-le q P lq)

    spelt : s ≡ take (length s) (drop q P)
    spelt =
        append_cancel_left (take q P) s (take (length s) (drop q P))
        (sym e ∙ ap (λ (n : ℕ). take n P) (sym far) ∙ take-add q (length s) P)

-- a carried length q of a state
pub record Carries (P : List ℕ) (st q : ℕ) : Type 0 where
  pub some : 0 < q
  pub short : q < length P
  pub carried : bit st q ≡ true

pub front_length : (P : List ℕ) {st : ℕ} (q : ℕ) → Carries P st q → length (take q P) ≡ q
front_length P q c = length-take-le q P (let z : q ≤ length P = omega (arith, c.short) in z)

-- what a state brings about, as a relation: A by a fresh start, or B q by a carried q
pub data From (P : List ℕ) (st : ℕ) (A : Type 0) (B : ℕ → Type 0) : Type 0 where
  afresh : bit st 0 ≡ true → A → From P st A B
  carrying : (q : ℕ) → Carries P st q → B q → From P st A B

pub from-map : (P : List ℕ) (st : ℕ) {A C : Type 0} {B D : ℕ → Type 0} → (A → C) → ((q : ℕ) → Carries P st q → B q → D q) → From P st A B →
    From P st C D
from-map P st f g (afresh e a) = afresh e (f a)
from-map P st f g (carrying q c b) = carrying q c (g q c b)

module _ (P : List ℕ) (st : ℕ) (a : Bool) (b : ℕ → Bool) where
  carried-test : ℕ → Bool
  carried-test q = ltb 0 q && bit st q && b q

  brings-is : brings P st a b ≡ true → From P st (a ≡ true) (λ q. b q ≡ true)
  unfolding brings carried-test
  brings-is e =
      ⊎_elim
      (λ (h : (bit st 0 && a) ≡ true). afresh (and_left (bit st 0) a h) (and_right (bit st 0) a h))
      (λ (h : any_below carried-test (length P) ≡ true). in-state (any_below-some carried-test (length P) h))
      (or_cases (bit st 0 && a) (any_below carried-test (length P)) e)
    where
      in-state : Below carried-test (length P) → From P st (a ≡ true) (λ q. b q ≡ true)
      in-state h =
          let q = h.index in
          let front = and_left (ltb 0 q && bit st q) (b q) h.passes in
          carrying q
          (record {
            some = ltb-true 0 q (and_left (ltb 0 q) (bit st q) front);
            short = h.small;
            carried = and_right (ltb 0 q)
                (bit st q) front;
          })
          (and_right (ltb 0 q && bit st q) (b q) h.passes)

  is-brings : From P st (a ≡ true) (λ q. b q ≡ true) → brings P st a b ≡ true
  unfolding brings carried-test
  is-brings (afresh e h) = or_left (bit st 0 && a) (any_below carried-test (length P)) (and_both (bit st 0) a e h)
  is-brings (carrying q c h) =
      or_right (bit st 0 && a) (any_below carried-test (length P))
      (some-any_below carried-test (length P) q c.short
      (and_both (ltb 0 q && bit st q) (b q) (and_both (ltb 0 q) (bit st q) (lt-ltb 0 q c.some) c.carried) h))

-- bit 0 of the next state is bit 0 of the state
pub next-open : (P : List ℕ) (st : ℕ) (g : Segment) → 0 < length P → bit (next P st g) 0 ≡ bit st 0
unfolding next next_bit
next-open P st g l = bit-from_bits (next_bit P st g) (length P) 0 l

pub next-lt : (P : List ℕ) (st : ℕ) (g : Segment) → next P st g < 2 ^ length P
unfolding next
next-lt P st g = from_bits-lt (next_bit P st g) (length P)

next_bit_lem : (P : List ℕ) (st : ℕ) (g : Segment) (r : ℕ) → 0 < r → r < length P → bit (next P st g) r ≡ any_of (carries P st r) g
unfolding next next_bit
next_bit_lem P st g zero some l = absurd (let z : ⊥ = omega arith in z)
next_bit_lem P st g (suc r) some l = bit-from_bits (next_bit P st g) (length P) (suc r) l

-- length r is carried out by the variant s
abbrev pub CarriedBy : List ℕ → ℕ → ℕ → Variant → Type 0
CarriedBy P st r s = From P st (Suffix (take r P) s) (λ q. take r P ≡ take q P ++ s)

module _ (P : List ℕ) (st : ℕ) (g : Segment) (r : ℕ) (some : 0 < r) (short : r < length P) where
  -- bit r of the next state: some variant carries r out
  pub next-is : bit (next P st g) r ≡ true → Some g (CarriedBy P st r)
  unfolding carries
  next-is e =
      let h = any_of-some (carries P st r) g (sym (next_bit_lem P st g r some short) ∙ e) in
      let s = h.member in
      record {
        variant = s;
        listed = h.listed;
        is =
            from-map P st (suffix-is (take r P) s) (λ q c. sends-is P q s r)
            (brings-is P st (suffix (take r P) s) (λ q. sends P q s r) h.passes);
      }

  pub is-next : Some g (CarriedBy P st r) → bit (next P st g) r ≡ true
  unfolding carries
  is-next h =
      let s = h.variant in
      let within : r ≤ length P = omega arith in
      next_bit_lem P st g r some short
      ∙ some-any_of (carries P st r) g h.listed
      (is-brings P st (suffix (take r P) s) (λ q. sends P q s r)
      (from-map P st (is-suffix (take r P) s)
      (λ (q : ℕ) (c : Carries P st q) e. is-sends P q s r (let z : q ≤ length P = omega (arith, c.short) in z) within e)
      h.is))

-- an occurrence ends in the variant s
abbrev pub EndsBy : List ℕ → ℕ → Variant → Type 0
EndsBy P st s = From P st (Inside P s) (λ q. Prefix (drop q P) s)

module _ (P : List ℕ) (st : ℕ) (g : Segment) where
  -- an end in a segment: an occurrence ends in some variant
  pub ends_is : ends P st g ≡ true → Some g (EndsBy P st)
  unfolding ends ends_at
  ends_is e =
      let h = any_of-some (ends_at P st) g e in
      let s = h.member in
      record {
        variant = s;
        listed = h.listed;
        is =
            from-map P st (inside_is P s) (λ q c. prefix-is (drop q P) s)
            (brings-is P st (inside P s) (λ q. prefix (drop q P) s) h.passes);
      }

  pub is-ends : Some g (EndsBy P st) → ends P st g ≡ true
  unfolding ends ends_at
  is-ends h =
      let s = h.variant in
      some-any_of (ends_at P st) g h.listed
      (is-brings P st (inside P s) (λ q. prefix (drop q P) s)
      (from-map P st (is-inside P s) (λ q c. is-prefix (drop q P) s) h.is))
