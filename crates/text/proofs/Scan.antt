-- One variant, letter by letter: what a letter more does to the state that the variant leads to, and to whether an occurrence ends
-- in it.
use Prim.Native.Nat.{ℕ, zero, suc, ◌^◌, ◌≤◌, ◌<◌, zero-le}
use native.Mathlib.Omega.{arith}
use mathlib.Core.Path.{◌≡◌, refl, sym, ap, ap₂, subst, ◌∙◌}
use mathlib.Core.Logic.{◌⊎◌, inl, inr, ⊎_elim, ◌↔◌}
use mathlib.Core.Bool.{true, false, ◌||◌, ◌&&◌}
use mathlib.Core.List.Memᴰ
use mathlib.Core.List.{List, [], ◌∷◌, ◌++◌, append_assoc, append-nil, append_cancel_left}
use lib.Dec.{eqb}
use lib.ListN.{length, get_or, take, drop, length-append, length-drop, take-append-drop}
use lib.Seq.{take-suc, take-length, length-take-le}
use Rattle.text.specs.Text.{Variant}
use Rattle.text.specs.Occurrence.{Prefix, Suffix, Inside}
use Rattle.text.specs.Bits.{bit, any_of}
use Rattle.text.specs.State.{next, ends_at, ends}
use Rattle.text.proofs.Truth.{or-false, same_truth, not-true-false}
use Rattle.text.proofs.Tests.{eq_test, and-test, or-test}
use Rattle.text.proofs.Bits.{bit-ext}
use Rattle.text.proofs.Snoc.{◌▸◌, snoc-inj, suffix-less, suffix-more, prefix-less, prefix-more, inside-less, inside-more}
use Rattle.text.proofs.Steps.{split-length, front_length, afresh, carrying, CarriedBy, EndsBy, next-open, next-lt, next-is, is-next}
use Rattle.text.proofs.Steps.{ends_is, is-ends}

-- a segment with one variant: bit r of the next state, bit 0 included
module _ (P : List ℕ) (st : ℕ) (v : Variant) where
  open-carried : bit st 0 ≡ true → CarriedBy P st 0 v
  open-carried e = afresh e (record { start = v; split = sym (append-nil v) })

  carried-open : CarriedBy P st 0 v → bit st 0 ≡ true
  carried-open (afresh e h) = e
  carried-open (carrying q c e) =
      absurd (let z : ⊥ = omega (arith, split-length P (take q P) v 0 zero-le e, front_length P q c, c.some) in z)

  pub one-carried : (r : ℕ) → r < length P → (bit (next P st (v ∷ [])) r ≡ true) ↔ CarriedBy P st r v
  one-carried zero short =
      (λ e. open-carried (sym (next-open P st (v ∷ []) short) ∙ e), λ h. next-open P st (v ∷ []) short ∙ carried-open h)
  one-carried (suc r) short =
      let some : 0 < suc r = omega arith in (
        λ e. let h = next-is P st (v ∷ []) (suc r) some short e in rw (← Memᴰ.eq_of_singleton h.listed) h.is,
        λ h. is-next P st (v ∷ []) (suc r) some short (record { variant = v; listed = Memᴰ.head refl; is = h }),
      )

  -- an occurrence ends in a segment of one variant
  pub one-ends : ends P st (v ∷ []) ≡ ends_at P st v
  unfolding ends any_of
  one-ends = or-false (ends_at P st v)

  pub one_ended : (ends_at P st v ≡ true) ↔ EndsBy P st v
  one_ended = (
    λ e. let h = ends_is P st (v ∷ []) (one-ends ∙ e) in rw (← Memᴰ.eq_of_singleton h.listed) h.is,
    λ h. sym one-ends ∙ is-ends P st (v ∷ []) (record { variant = v; listed = Memᴰ.head refl; is = h }),
  )

-- the empty variant leaves the state as it is, and ends nothing
module _ (P : List ℕ) (st : ℕ) where
  empty-carried : (r : ℕ) → 0 < r → r < length P → CarriedBy P st r [] → bit st r ≡ true
  empty-carried r pos short (afresh e h) =
      absurd
      (let all : r ≤ length P = omega arith in
      let z : ⊥ = omega (arith, ap length h.split ∙ length-append h.start (take r P), length-take-le r P all) in
      z)
  empty-carried r pos short (carrying q c e) =
      let all : r ≤ length P = omega arith in
      let same : r ≡ q = omega (arith, split-length P (take q P) [] r all e, front_length P q c) in
      rw same c.carried

  carried-empty : (r : ℕ) → 0 < r → r < length P → bit st r ≡ true → CarriedBy P st r []
  carried-empty r pos short e = carrying r (record { some = pos; short = short; carried = e }) (sym (append-nil (take r P)))

  pub empty-state : 0 < length P → st < 2 ^ length P → next P st ([] ∷ []) ≡ st
  empty-state some small = bit-ext (length P) (next P st ([] ∷ [])) st (next-lt P st ([] ∷ [])) small each
    where
      each : (r : ℕ) → r < length P → bit (next P st ([] ∷ [])) r ≡ bit st r
      each zero l = next-open P st ([] ∷ []) some
      each (suc r) l =
          let pos : 0 < suc r = omega arith in
          let one = one-carried P st [] (suc r) l in
          same_truth _ _ (λ e. empty-carried (suc r) pos l (one.0 e)) (λ e. one.1 (carried-empty (suc r) pos l e))

  pub empty-ends : 0 < length P → ends_at P st [] ≡ false
  empty-ends some = not-true-false (ends_at P st []) (λ e. never ((one_ended P st []).0 e))
    where
      never : EndsBy P st [] → ⊥
      never (afresh e h) =
          omega (arith, ap length h.split ∙ length-append h.start (P ++ h.rest), length-append P h.rest)
      never (carrying q c h) =
          omega (arith, ap length h.split ∙ length-append (drop q P) h.rest, length-drop q P, c.short)

-- a letter more
module _ (P : List ℕ) (st : ℕ) (v : Variant) (c : ℕ) where
  -- r + 1 bases are carried out with c exactly when r are without it, and c is the base after them
  less : (r : ℕ) → r < length P → CarriedBy P st (suc r) (v ▸ c) → CarriedBy P st r v × (get_or P r 0 ≡ c)
  less r l (afresh e h) =
      let s = suffix-less v c (take r P) (get_or P r 0) (rw (take-suc P r 0 l) at h) in
      (afresh e s.0, s.1)
  less r l (carrying q k e) =
      let s = snoc-inj (take r P) (take q P ++ v) (get_or P r 0) c (sym (take-suc P r 0 l) ∙ e ∙ sym (append_assoc (take q P) v (c ∷ []))) in
      (carrying q k s.0, s.1)

  more : (r : ℕ) → r < length P → CarriedBy P st r v → get_or P r 0 ≡ c → CarriedBy P st (suc r) (v ▸ c)
  more r l (afresh e h) same = afresh e (rw (take-suc P r 0 l) (suffix-more v c (take r P) (get_or P r 0) h same))
  more r l (carrying q k e) same =
      carrying q k (take-suc P r 0 l ∙ ap₂ (λ (s : List ℕ) (x : ℕ). s ▸ x) e same ∙ append_assoc (take q P) v (c ∷ []))

  pub scan_state : (r : ℕ) → suc r < length P → bit (next P st ((v ▸ c) ∷ [])) (suc r) ≡ (bit (next P st (v ∷ [])) r && eqb (get_or P r 0) c)
  scan_state r l =
      let k : r < length P = omega arith in
      let longer = one-carried P st (v ▸ c) (suc r) l in
      let both = and-test (one-carried P st v r k) (eq_test (get_or P r 0) c) in
      same_truth _ _ (λ e. both.1 (less r k (longer.0 e))) (λ e. let h = both.0 e in longer.1 (more r k h.0 h.1))

  module _ (n : ℕ) (long : length P ≡ suc n) where
    split : P ≡ take n P ▸ get_or P n 0
    split =
        let l : n < length P = omega arith in
        sym (take-length P) ∙ ap (λ (k : ℕ). take k P) long ∙ take-suc P n 0 l

    ends-less : EndsBy P st (v ▸ c) → EndsBy P st v ⊎ (CarriedBy P st n v × (get_or P n 0 ≡ c))
    ends-less (afresh e h) =
        ⊎_elim
        (λ (k : Inside P v). inl (afresh e k))
        (λ (k : Suffix P (v ▸ c)). let s = suffix-less v c (take n P) (get_or P n 0) (subst (λ (p : List ℕ). Suffix p (v ▸ c)) split k) in inr
        (afresh e s.0, s.1))
        (inside-less v c P h)
    ends-less (carrying q k h) =
        ⊎_elim
        (λ (g : Prefix (drop q P) v). inl (carrying q k g))
        (λ (g : drop q P ≡ v ▸ c).
        let s =
        snoc-inj (take n P) (take q P ++ v) (get_or P n 0) c
        (sym split ∙ sym (take-append-drop q P) ∙ ap (λ (t : List ℕ). take q P ++ t) g ∙ sym (append_assoc (take q P) v (c ∷ []))) in
        inr (carrying q k s.0, s.1))
        (prefix-less v c (drop q P) h)

    ends_more : EndsBy P st v ⊎ (CarriedBy P st n v × (get_or P n 0 ≡ c)) → EndsBy P st (v ▸ c)
    ends_more (inl (afresh e h)) = afresh e (inside-more v c P (inl h))
    ends_more (inl (carrying q k h)) = carrying q k (prefix-more v c (drop q P) (inl h))
    ends_more (inr x) = with-last x.0 x.1
      where
        with-last : CarriedBy P st n v → get_or P n 0 ≡ c → EndsBy P st (v ▸ c)
        with-last (afresh e h) same =
            afresh e
            (inside-more v c P
            (inr (subst (λ (p : List ℕ). Suffix p (v ▸ c)) (sym split) (suffix-more v c (take n P) (get_or P n 0) h same))))
        with-last (carrying q k e) same =
            let whole : take q P ++ drop q P ≡ take q P ++ (v ▸ c) =
            take-append-drop q P ∙ split ∙ ap₂ (λ (s : List ℕ) (x : ℕ). s ▸ x) e same ∙ append_assoc (take q P) v (c ∷ []) in
            carrying q k (prefix-more v c (drop q P) (inr (append_cancel_left (take q P) (drop q P) (v ▸ c) whole)))

    pub scan-ends : ends_at P st (v ▸ c) ≡ (ends_at P st v || (bit (next P st (v ∷ [])) n && eqb (get_or P n 0) c))
    scan-ends =
        let l : n < length P = omega arith in
        let longer = one_ended P st (v ▸ c) in
        let either = or-test (one_ended P st v) (and-test (one-carried P st v n l) (eq_test (get_or P n 0) c)) in
        same_truth _ _ (λ e. either.1 (ends-less (longer.0 e))) (λ e. longer.1 (ends_more (either.0 e)))
