-- Strings with one letter more at the end, and what that letter changes in a prefix, a suffix and an occurrence inside.
use Prim.Native.Nat.{ℕ}
use native.Mathlib.Omega.{arith}
use mathlib.Core.Path.{◌≡◌, refl, sym, ap, ◌∙◌}
use mathlib.Core.Logic.{◌⊎◌, inl, inr}
use mathlib.Core.List.{List, [], ◌∷◌, ◌++◌, append_assoc, append-nil, head-eq_of_cons-eq, tail-eq_of_cons-eq}
use lib.ListN.{length, length-append}
use Rattle.text.specs.Occurrence.{Prefix, Suffix, Inside}

-- s with the letter c after it
abbrev pub ◌▸◌ : List ℕ → ℕ → List ℕ
◌▸◌ s c = s ++ (c ∷ [])

infixl 60 ◌▸◌
pub snoc-inj : (s t : List ℕ) (c d : ℕ) → s ▸ c ≡ t ▸ d → (s ≡ t) × (c ≡ d)
snoc-inj [] [] c d e = (refl, head-eq_of_cons-eq e)
snoc-inj [] (y ∷ t) c d e = absurd (let z : ⊥ = omega (arith, ap length e, length-append t (d ∷ [])) in z)
snoc-inj (x ∷ s) [] c d e = absurd (let z : ⊥ = omega (arith, ap length e, length-append s (c ∷ [])) in z)
snoc-inj (x ∷ s) (y ∷ t) c d e =
    let rest = snoc-inj s t c d (tail-eq_of_cons-eq e) in
    let same : x ≡ y = head-eq_of_cons-eq e in
    let tail : s ≡ t = rest.0 in
    (cc, rest.1)

-- a string is empty or has a last letter
pub data Last : List ℕ → Type 0 where
  none : Last []
  one : (s : List ℕ) (c : ℕ) → Last (s ▸ c)

pub last : (s : List ℕ) → Last s
last [] = none
last (c ∷ s) = more (last s)
  where
    more : {t : List ℕ} → Last t → Last (c ∷ t)
    more none = one [] c
    more (one t d) = one (c ∷ t) d

module _ (s : List ℕ) (c : ℕ) where
  -- a suffix that has the last letter
  pub suffix-less : (p : List ℕ) (a : ℕ) → Suffix (p ▸ a) (s ▸ c) → Suffix p s × (a ≡ c)
  suffix-less p a h =
      let e = snoc-inj s (h.start ++ p) c a (h.split ∙ sym (append_assoc h.start p (a ∷ []))) in
      (record { start = h.start; split = e.0 }, sym e.1)

  pub suffix-more : (p : List ℕ) (a : ℕ) → Suffix p s → a ≡ c → Suffix (p ▸ a) (s ▸ c)
  suffix-more p a h e =
      record {
        start = h.start;
        split = ap (λ (t : List ℕ). t ▸ c) h.split ∙ append_assoc h.start p (c ∷ [])
            ∙ ap (λ (x : ℕ). h.start ++ (p ▸ x)) (sym e);
      }

  -- a prefix that ends before the last letter, or with it
  pub prefix-less : (p : List ℕ) → Prefix p (s ▸ c) → Prefix p s ⊎ (p ≡ s ▸ c)
  prefix-less p h = go h.rest (last h.rest) h.split
    where
      go : (l : List ℕ) → Last l → s ▸ c ≡ p ++ l → Prefix p s ⊎ (p ≡ s ▸ c)
      go [] none e = inr (sym (e ∙ append-nil p))
      go _ (one t d) e = inl (record { rest = t; split = (snoc-inj s (p ++ t) c d (e ∙ sym (append_assoc p t (d ∷ [])))).0 })

  pub prefix-more : (p : List ℕ) → Prefix p s ⊎ (p ≡ s ▸ c) → Prefix p (s ▸ c)
  prefix-more p (inl h) = record { rest = h.rest ▸ c; split = ap (λ (t : List ℕ). t ▸ c) h.split ∙ append_assoc p h.rest (c ∷ []) }
  prefix-more p (inr e) = record { rest = []; split = sym e ∙ sym (append-nil p) }

  -- an occurrence that ends before the last letter, or with it
  pub inside-less : (p : List ℕ) → Inside p (s ▸ c) → Inside p s ⊎ Suffix p (s ▸ c)
  inside-less p h = go h.rest (last h.rest) h.split
    where
      go : (l : List ℕ) → Last l → s ▸ c ≡ h.start ++ (p ++ l) → Inside p s ⊎ Suffix p (s ▸ c)
      go [] none e = inr (record { start = h.start; split = e ∙ ap (λ (t : List ℕ). h.start ++ t) (append-nil p) })
      go _ (one t d) e =
          inl
          (record {
            start = h.start;
            rest = t;
            split =
                (snoc-inj s (h.start ++ (p ++ t)) c d
                (e ∙ ap (λ (x : List ℕ). h.start ++ x) (sym (append_assoc p t (d ∷ [])))
                ∙ sym (append_assoc h.start (p ++ t) (d ∷ [])))).0;
          })

  pub inside-more : (p : List ℕ) → Inside p s ⊎ Suffix p (s ▸ c) → Inside p (s ▸ c)
  inside-more p (inl h) =
      record {
        start = h.start;
        rest = h.rest ▸ c;
        split =
            ap (λ (t : List ℕ). t ▸ c) h.split
            ∙ append_assoc h.start (p ++ h.rest) (c ∷ [])
            ∙ ap (λ (x : List ℕ). h.start ++ x) (append_assoc p h.rest (c ∷ []));
      }
  inside-more p (inr h) = record { start = h.start; rest = []; split = h.split ∙ ap (λ (x : List ℕ). h.start ++ x) (sym (append-nil p)) }
