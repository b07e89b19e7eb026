-- Laws of the check of a segment that a write is given, variant by variant. An accepted walk gives exactly the variants that the
-- letters are cut into.
use Prim.Native.Nat.{ℕ, zero, suc, ◌+◌, ◌-◌, ◌<◌, ◌≤◌}
use native.Mathlib.Omega.{arith}
use mathlib.Core.Path.{◌≡◌, refl, sym, ap, ◌∙◌}
use mathlib.Core.Bool.{true, false, not}
use mathlib.Core.List.{List, [], ◌∷◌, ◌++◌, append_assoc, append-nil}
use borrow.Author.Tests.{lt-ltb}
use lib.ListN.{length, get_or, take, drop, length-take}
use Rattle.text.specs.Letter.{capital, every, first_not}
use Rattle.text.specs.Text.{Variant, Segment, total}
use Rattle.text.specs.Refusal.{Outcome, ok, refused}
use Rattle.text.proofs.Outcomes.{ok-inj, refused-ok, demand-met, after-met}
use Rattle.text.proofs.Letters.{first-le, first-every, first-not-every}
use Rattle.layout.specs.Bytes.{part}
use Rattle.layout.specs.Reading.{Taken, among, many}
use Rattle.writer.specs.Cuts.{cut, sum_from, pieces, Within}
use Rattle.writer.specs.Writing.{Spot, spot, variant_given, segment_given}
use Rattle.writer.specs.Answers.{reached}
use Rattle.layout.proofs.Walks.{Walk, walk_none, walk_more, walk_refused}
use Rattle.writer.proofs.Cuts.{Passing, passing-none, passing-more, part_slice, length_part, pieces-first, sum_first}

-- variant v, of m letters from letter `at` on, as a slice hands them on, after those seen of its segment; w is the first that is
-- no letter
module _
    (letters lengths : List ℕ) (seen : Segment) (v at : ℕ) {m w : ℕ} (e : m ≡ get_or lengths v 0)
    (f : w ≡ first_not capital (take (at + m - at) (drop at letters))) where
  own : Variant
  own = part letters at (get_or lengths v 0)

  is-own : take (at + m - at) (drop at letters) ≡ own
  unfolding own
  is-own = part_slice letters at m ∙ ap (part letters at) e

  first : w ≡ first_not capital own
  first = f ∙ ap (first_not capital) is-own

  pub given-wrong :
      at + m ≤ length letters → w < at + m - at → reached (variant_given letters lengths seen (spot v at)) ≡ refused 7 (at + w)
  unfolding variant_given own
  given-wrong l k =
      let size : length own ≡ m = ap length (ap (part letters at) (sym e)) ∙ length_part letters at m l in
      let wrong : first_not capital own < length own = omega (arith, first) in
      rw (first-not-every capital own wrong, first)

  sound : at + m - at ≤ w → every capital own ≡ true
  unfolding own
  sound k =
      let size : length own ≤ at + m - at = rw (← is-own, length-take) (omega arith) in
      let all : first_not capital own ≡ length own = omega (arith, first, first-le capital own) in
      first-every capital own all

  pub given-again :
      at + m - at ≤ w → among (take (at + m - at) (drop at letters)) seen ≡ true →
      reached (variant_given letters lengths seen (spot v at)) ≡ refused 8 v
  unfolding variant_given own
  given-again k a =
      let again : among own seen ≡ true = ap (λ (s : Variant). among s seen) (sym is-own) ∙ a in
      rw (sound k, again)

  pub given-sound :
      at + m - at ≤ w → among (take (at + m - at) (drop at letters)) seen ≡ false →
      reached (variant_given letters lengths seen (spot v at)) ≡ ok (at + m)
  unfolding variant_given own
  given-sound k a =
      let once : among own seen ≡ false = ap (λ (s : Variant). among s seen) (sym is-own) ∙ a in
      rw (sound k, once, e)

-- a refusal stays
pub reached-refused : {A : Type 0} (o : Outcome (Taken A Spot)) (m p : ℕ) → reached o ≡ refused m p → o ≡ refused m p
reached-refused (ok x) m p e = absurd (refused-ok m p x.next.letter (sym e))
reached-refused (refused n q) m p e = cc

-- an acceptance has a value
pub record Reaching {A : Type 0} (o : Outcome (Taken A Spot)) (next : ℕ) : Type 0 where
  pub value : Taken A Spot
  pub accepts : o ≡ ok value
  pub arrives : next ≡ value.next.letter

pub reached-ok : {A : Type 0} (o : Outcome (Taken A Spot)) (next : ℕ) → reached o ≡ ok next → Reaching o next
reached-ok o next e =
    let (x, f, g) = after-met o (λ x. ok x.next.letter) next e in
    record { value = x; accepts = f; arrives = sym (ok-inj g) }

module _ (letters lengths : List ℕ) where
  -- how a walk over variants reads the next one, and what it then gives
  abbrev next_variant : Segment → Spot → Outcome (Taken Variant Spot)
  next_variant = variant_given letters lengths

  abbrev taken : ℕ → ℕ → Taken Variant Spot
  taken v at = record { value = part letters at (get_or lengths v 0); next = spot (v + 1) (at + get_or lengths v 0) }

  -- what an accepted variant has met
  pub record VariantMet (seen : Segment) (v at : ℕ) (x : Taken Variant Spot) : Type 0 where
    pub spelt : every capital (part letters at (get_or lengths v 0)) ≡ true
    pub once : not (among (part letters at (get_or lengths v 0)) seen) ≡ true
    pub is : x ≡ taken v at

  pub variant-met : (seen : Segment) (v at : ℕ) (x : Taken Variant Spot) → next_variant seen (spot v at) ≡ ok x → VariantMet seen v at x
  unfolding variant_given
  variant-met seen v at x e =
      let s : Variant = part letters at (get_or lengths v 0) in
      let a = demand-met (every capital s) 7 (at + first_not capital s) _ x e in
      let b = demand-met (not (among s seen)) 8 v (ok (taken v at)) x a.1 in
      record { spelt = a.0; once = b.0; is = sym (ok-inj b.1) }

  -- n variants from variant v and letter `at` on: an accepted walk over them gives the pieces that the letters are cut into
  pub variants-are :
      (n : ℕ) (seen : Segment) (v at : ℕ) (x : Taken Segment Spot) → v + n ≤ length lengths → many next_variant n seen (spot v at) ≡ ok x →
      x ≡ record { value = seen ++ pieces letters lengths v at n; next = spot (v + n) (at + sum_from lengths v n) }
  unfolding many cut total
  variants-are zero seen v at x l e =
      let p : v + 0 ≡ v = omega arith in
      let q : at + 0 ≡ at = omega arith in
      sym (ok-inj e) ∙ rw (append-nil seen, p, q)
  variants-are (suc n) seen v at x l e =
      let m : ℕ = get_or lengths v 0 in
      let more : Segment = seen ++ (part letters at m ∷ []) in
      let first : v < length lengths = omega arith in
      let rest : v + 1 + n ≤ length lengths = omega arith in
      let (y, f, g) = after-met (next_variant seen (spot v at)) (λ y. many next_variant n (seen ++ (y.value ∷ [])) y.next) x e in
      let h : many next_variant n more (spot (v + 1) (at + m)) ≡ ok x = rw (variant-met seen v at y f).is at g in
      let p : v + suc n ≡ v + 1 + n = omega arith in
      let q : at + sum_from lengths v (suc n) ≡ at + m + sum_from lengths (v + 1) n = omega (arith, sum_first lengths v n first) in
      variants-are n more (v + 1) (at + m) x rest h ∙ rw (p, q, pieces-first letters lengths v at n first, append_assoc)

-- of segment j, which begins with variant `first` and letter `from`, k of n variants are accepted, and the next one's letters start
-- at `at`
pub record VariantsAccepted (letters lengths counts : List ℕ) (j first from n at k : ℕ) : Type 0 where
  pub all : segment_given letters lengths counts j (spot first from) ≡ many (variant_given letters lengths) n [] (spot first from)
  pub passing : Passing (length letters) lengths first from n k at
  pub seen : Segment
  pub walk : Walk (variant_given letters lengths) (spot first from) k seen (spot (first + k) at)

module _ (letters lengths counts : List ℕ) (j : ℕ) {n : ℕ} (e : n ≡ get_or counts j 0) where
  -- there are none
  pub segment-empty : (at : Spot) → n ≡ 0 → reached (segment_given letters lengths counts j at) ≡ refused 6 j
  unfolding segment_given
  segment-empty at z = let h : get_or counts j 0 ≡ 0 = omega arith in rw h

  pub accepted-none :
      {first from : ℕ} → (n ≡ 0 → ⊥) → Within (length letters) lengths first from (get_or counts j 0) →
      VariantsAccepted letters lengths counts j first from n from 0
  unfolding segment_given
  accepted-none {first} {from} s w =
      let some : 0 < get_or counts j 0 = omega arith in
      let number : first + 0 ≡ first = omega arith in
      record {
        all = rw (lt-ltb 0 (get_or counts j 0) some, e);
        passing = rw e (passing-none w);
        seen = [];
        walk = rw number (walk_none (variant_given letters lengths) (spot first from));
      }

module _ {letters lengths counts : List ℕ} {j first from n at k : ℕ} (w : VariantsAccepted letters lengths counts j first from n at k) where
  abbrev start : Spot
  start = spot first from

  abbrev here : Spot
  here = spot (first + k) at

  -- what was seen are the first k pieces
  abbrev before : Segment
  before = pieces letters lengths first from k

  seen_are : w.seen ≡ before
  seen_are =
      let l : first + k ≤ length lengths = omega (arith, w.passing.whole.listed, w.passing.most) in
      ap (λ (y : Taken Segment Spot). y.value) (variants-are letters lengths k [] first from _ l w.walk)

  pub accepted-refused :
      (m p : ℕ) → k < n → reached (variant_given letters lengths before here) ≡ refused m p →
      reached (segment_given letters lengths counts j start) ≡ refused m p
  accepted-refused m p l e =
      let f : variant_given letters lengths w.seen here ≡ refused m p = rw seen_are (reached-refused _ m p e) in
      ap reached (w.all ∙ walk_refused _ start k w.seen here w.walk n l m p f)

  pub accepted-more :
      (next : ℕ) → k < n → reached (variant_given letters lengths before here) ≡ ok next →
      VariantsAccepted letters lengths counts j first from n next (k + 1)
  accepted-more next l e =
      let v : ℕ = first + k in
      let m : ℕ = get_or lengths v 0 in
      let r = reached-ok (variant_given letters lengths before here) next e in
      let is = (variant-met letters lengths before v at r.value r.accepts).is in
      let s : next ≡ at + m = r.arrives ∙ ap (λ (x : Taken Variant Spot). x.next.letter) is in
      let to = taken letters lengths v at in
      let read : variant_given letters lengths w.seen here ≡ ok to = rw seen_are (r.accepts ∙ ap ok is) in
      let number : first + (k + 1) ≡ v + 1 = omega arith in
      record {
        all = w.all;
        passing = rw s (passing-more w.passing l refl);
        seen = w.seen ++ (to.value ∷ []);
        walk = rw (number, s) (walk_more _ start k w.seen here w.walk to read);
      }

  pub accepted-end : n ≤ k → reached (segment_given letters lengths counts j start) ≡ ok at
  accepted-end l = let e : n ≡ k = omega (arith, w.passing.most) in ap reached w.all ∙ rw (e, w.walk)
