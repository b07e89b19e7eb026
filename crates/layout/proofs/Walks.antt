-- Laws of `many`: things read one after another, so far and to the end. A walk knows what it has seen and where it stands.
use Rattle.std.proofs.Common.{◌≡◌, ℕ, zero, suc, ◌+◌, ◌-◌, ◌<◌, ◌≤◌, List, [], ◌∷◌, ◌++◌, length, sym, refl, ap, ◌∙◌, suc-add, zero-add, arith, length-append}
use mathlib.Core.Path.{fun_ext}
use Rattle.text.specs.Refusal.{Outcome, ok, refused, after}
use Rattle.text.specs.Text.{total}
use Rattle.text.proofs.Sizes.{total-snoc}
use Rattle.text.proofs.Outcomes.{ok-inj, after-met, after-after}
use Rattle.layout.specs.Reading.{Taken, many}

module _ {A B : Type 0} (f : List A → B → Outcome (Taken A B)) where
  -- n and then k more
  pub many-add : (n k : ℕ) (seen : List A) (at : B) → many f (n + k) seen at ≡ after (many f n seen at) (λ x. many f k x.value x.next)
  unfolding many
  many-add zero k seen at = rw zero-add
  many-add (suc n) k seen at =
      rw suc-add
      (ap (after (f seen at)) (fun_ext (λ (x : Taken A B). many-add n k (seen ++ (x.value ∷ [])) x.next))
      ∙ sym (after-after (f seen at) (λ x. many f n (seen ++ (x.value ∷ [])) x.next) (λ x. many f k x.value x.next)))

  pub many-length : (n : ℕ) (seen : List A) (at : B) (x : Taken (List A) B) → many f n seen at ≡ ok x → length x.value ≡ length seen + n
  unfolding many
  many-length zero seen at x e =
      let same : length seen ≡ length x.value = ap (λ (y : Taken (List A) B). length y.value) (ok-inj e) in
      omega arith
  many-length (suc n) seen at x e =
      let t = after-met (f seen at) (λ y. many f n (seen ++ (y.value ∷ [])) y.next) x e in
      omega (arith, many-length n (seen ++ (t.0.value ∷ [])) t.0.next x t.2, length-append seen (t.0.value ∷ []))

  -- k things have been read from `start` on, those seen, and the walk stands at `at`
  abbrev pub Walk : B → ℕ → List A → B → Type 0
  Walk start k seen at = many f k [] start ≡ ok (record { value = seen; next = at })

  pub walk_none : (start : B) → Walk start 0 [] start
  unfolding many
  walk_none start = refl

  module _ (start : B) (k : ℕ) (seen : List A) (at : B) (w : Walk start k seen at) where
    pub walk_more : (x : Taken A B) → f seen at ≡ ok x → Walk start (k + 1) (seen ++ (x.value ∷ [])) x.next
    unfolding many
    walk_more x e = many-add k 1 [] start ∙ rw w (ap (λ (o : Outcome (Taken A B)). after o one) e)
      where
        one : Taken A B → Outcome (Taken (List A) B)
        one y = ok (record { value = seen ++ (y.value ∷ []); next = y.next })

    -- a refusal of the next thing is the refusal of all
    pub walk_refused : (n : ℕ) → k < n → (m p : ℕ) → f seen at ≡ refused m p → many f n [] start ≡ refused m p
    unfolding many
    walk_refused n l m p e =
        let more : n ≡ k + suc (n - suc k) = omega arith in
        ap (λ (i : ℕ). many f i [] start) more ∙ many-add k (suc (n - suc k)) [] start ∙ rw (w, e)

    pub walk-length : length seen ≡ k
    walk-length = omega (arith, many-length k [] start (record { value = seen; next = at }) w)

-- what f takes counts, by w, no more than the bytes that it passes, and it stays within L
pub record Step {A : Type 0} (w : A → ℕ) (L at : ℕ) (x : Taken A ℕ) : Type 0 where
  pub counts : w x.value + at ≤ x.next
  pub inside : x.next ≤ L

module _ {A : Type 0} (f : List A → ℕ → Outcome (Taken A ℕ)) (w : A → ℕ) (L : ℕ)
    (steps : (seen : List A) (at : ℕ) (x : Taken A ℕ) → f seen at ≡ ok x → Step w L at x) where
  -- so do several
  pub many-steps : (n : ℕ) (seen : List A) (at : ℕ) (x : Taken (List A) ℕ) → at ≤ L → many f n seen at ≡ ok x
      → (total w x.value + at ≤ total w seen + x.next) × (x.next ≤ L)
  unfolding many
  many-steps zero seen at x l e = rw (sym (ok-inj e)) (omega arith, l)
  many-steps (suc n) seen at x l e =
      let t = after-met (f seen at) (λ y. many f n (seen ++ (y.value ∷ [])) y.next) x e in
      let s = steps seen at t.0 t.1 in
      let m = many-steps n (seen ++ (t.0.value ∷ [])) t.0.next x s.inside t.2 in
      (omega (arith, m.0, s.counts, total-snoc w seen t.0.value), m.1)

  -- a walk that sums up what it has seen
  pub record Summed (start k : ℕ) (seen : List A) (at size : ℕ) : Type 0 where
    pub walk : Walk f start k seen at
    pub sum : size ≡ total w seen
    pub small : size + start ≤ at
    pub inside : at ≤ L

  pub summed-none : (start : ℕ) → start ≤ L → Summed start 0 [] start 0
  unfolding total
  summed-none start l = record { walk = walk_none f start; sum = refl; small = omega arith; inside = l }

  pub summed-more : (start k : ℕ) (seen : List A) (at size : ℕ) → Summed start k seen at size → (x : Taken A ℕ) → f seen at ≡ ok x
      → Summed start (k + 1) (seen ++ (x.value ∷ [])) x.next (size + w x.value)
  summed-more start k seen at size m x e =
      let s = steps seen at x e in
      record {
        walk = walk_more f start k seen at m.walk x e;
        sum = ap (λ (n : ℕ). n + w x.value) m.sum ∙ sym (total-snoc w seen x.value);
        small = omega (arith, m.small, s.counts);
        inside = s.inside;
      }
