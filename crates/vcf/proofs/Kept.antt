-- What an accepted file says of its records: which of them are in the window, that each is sound, and that they lie one after another.
use Prim.Native.Nat.{ℕ, suc, ◌≤◌}
use native.Mathlib.Omega.{arith}
use mathlib.Core.Path.{◌≡◌, refl, sym, ap, ◌∙◌}
use mathlib.Core.Bool.{Bool, true, false, ◌||◌, ◌&&◌, cond}
use mathlib.Core.List.{List, [], ◌∷◌}
use borrow.Author.Tests.{le-leb, leb-true}
use lib.Dec.{leb}
use Rattle.text.specs.Refusal.{Outcome, ok, refused, demand, after}
use Rattle.text.proofs.Outcomes.{ok-inj, refused-ok, refused-inj, demand-met, after-met}
use Rattle.text.proofs.Truth.{and_left, and_right}
use Rattle.vcf.specs.Records.{position, reference, behind, is_record, agrees}
use Rattle.vcf.specs.Records.{passed_over, comment, fitting, records, idle, touching}
use Rattle.vcf.specs.Records.{noted}

-- a line that holds a sound record in the window, not before position `from`
pub record InWindow (name w : List ℕ) (p from : ℕ) (l : List ℕ) : Type 0 where
  pub plain : comment l ≡ false
  pub sound : is_record name l ≡ true
  pub late : from ≤ position l
  pub inside : passed_over w p l ≡ false
  pub agreed : agrees w p (position l) (reference l) ≡ true

-- such lines, each after the one before it
unfoldable pub Kept : List ℕ → List ℕ → ℕ → ℕ → List (List ℕ) → Type 0
Kept name w p from [] = Unit {0}
Kept name w p from (l ∷ ls) = InWindow name w p from l × Kept name w p (behind l) ls

module _ (name w : List ℕ) (p : ℕ) where
  -- they are so after any earlier position
  kept-earlier : (ls : List (List ℕ)) (from to : ℕ) → from ≤ to → Kept name w p to ls → Kept name w p from ls
  unfolding Kept
  kept-earlier [] from to l k = k
  kept-earlier (x ∷ ls) from to l k =
      let h = k.0 in
      (record { plain = h.plain; sound = h.sound; late = omega (arith, h.late); inside = h.inside; agreed = h.agreed }, k.1)

  -- what is asked of a record that is met
  module _ (from : ℕ) (l : List ℕ) (fits : fitting name w p from l ≡ true) where
    met : ((is_record name l && leb from (position l)) ≡ true) × ((passed_over w p l || agrees w p (position l) (reference l)) ≡ true)
    unfolding fitting
    met =
        let a : Bool = is_record name l && leb from (position l) in
        let b : Bool = passed_over w p l || agrees w p (position l) (reference l) in
        (and_left a b fits, and_right a b fits)

    met-late : from ≤ position l
    met-late = leb-true from (position l) (and_right (is_record name l) (leb from (position l)) met.0)

    in_window : comment l ≡ false → passed_over w p l ≡ false → InWindow name w p from l
    in_window plain inside =
        record {
          plain = plain;
          sound = and_left (is_record name l) (leb from (position l)) met.0;
          late = met-late;
          inside = inside;
          agreed = rw inside at met.1;
        }

  -- the records of an accepted file are the lines that have a base in the window
  pub kept : (ls rs : List (List ℕ)) (n from : ℕ) → records name w p n from ls ≡ ok rs → (rs ≡ touching w p ls) × Kept name w p from rs
  unfolding records touching idle Kept
  kept [] rs n from e = let z : [] ≡ rs = ok-inj e in rw (← z) (refl, tt)
  kept (l ∷ ls) rs n from e =
      cases (comment l) (passed_over w p l) refl refl e
      (λ (h : records name w p (suc n) from ls ≡ ok rs). kept ls rs (suc n) from h)
      (λ (xs : List (List ℕ)) (h : records name w p (suc n) (behind l) ls ≡ ok xs). kept ls xs (suc n) (behind l) h)
    where
      cases :
          (b c : Bool) → comment l ≡ b → passed_over w p l ≡ c →
          cond b (records name w p (suc n) from ls)
          (demand (fitting name w p from l) 19 n (after (records name w p (suc n) (behind l) ls) λ xs. ok (cond c xs (l ∷ xs)))) ≡ ok rs →
          (records name w p (suc n) from ls ≡ ok rs → (rs ≡ touching w p ls) × Kept name w p from rs) →
          ((xs : List (List ℕ)) → records name w p (suc n) (behind l) ls ≡ ok xs → (xs ≡ touching w p ls) × Kept name w p (behind l) xs) →
          (rs ≡ cond (b || c) (touching w p ls) (l ∷ touching w p ls)) × Kept name w p from rs
      cases true c x y h i j = i h
      cases false true x y h i j =
          let d = demand-met (fitting name w p from l) 19 n (after (records name w p (suc n) (behind l) ls) λ xs. ok xs) rs h in
          let m = after-met (records name w p (suc n) (behind l) ls) (λ xs. ok xs) rs d.1 in
          let k = j rs (m.1 ∙ m.2) in
          (k.0, kept-earlier rs from (behind l) (omega (arith, met-late from l d.0)) k.1)
      cases false false x y h i j =
          let d = demand-met (fitting name w p from l) 19 n (after (records name w p (suc n) (behind l) ls) λ xs. ok (l ∷ xs)) rs h in
          let m = after-met (records name w p (suc n) (behind l) ls) (λ xs. ok (l ∷ xs)) rs d.1 in
          let k = j m.0 m.1 in
          rw (← ok-inj m.2) (ap (λ (xs : List (List ℕ)). l ∷ xs) k.0, (in_window from l d.0 x y, k.1))

  -- lines that are such records, and skipped ones between them, are accepted
  pub kept-records : (ls : List (List ℕ)) (n from : ℕ) → Kept name w p from (noted ls) → records name w p n from ls ≡ ok (noted ls)
  unfolding records noted Kept fitting
  kept-records [] n from k = refl
  kept-records (l ∷ ls) n from k =
      cases (comment l) k (kept-records ls (suc n) from)
      (λ (h : Kept name w p (behind l) (noted ls)). kept-records ls (suc n) (behind l) h)
    where
      cases :
          (b : Bool) → Kept name w p from (cond b (noted ls) (l ∷ noted ls)) →
          (Kept name w p from (noted ls) → records name w p (suc n) from ls ≡ ok (noted ls)) →
          (Kept name w p (behind l) (noted ls) → records name w p (suc n) (behind l) ls ≡ ok (noted ls)) →
          cond b (records name w p (suc n) from ls)
          (demand (fitting name w p from l) 19 n
          (after (records name w p (suc n) (behind l) ls) λ xs. ok (cond (passed_over w p l) xs (l ∷ xs))))
          ≡ ok (cond b (noted ls) (l ∷ noted ls))
      cases true k i j = i k
      cases false k i j =
          let h = k.0 in
          rw (h.sound, le-leb from (position l) h.late, h.inside, h.agreed, j k.1)

  -- only 19 is refused
  pub records-refused : (ls : List (List ℕ)) (n from m q : ℕ) → records name w p n from ls ≡ refused m q → m ≡ 19
  unfolding records
  records-refused [] n from m q e = absurd (refused-ok m q [] (sym e))
  records-refused (l ∷ ls) n from m q e =
      cases (comment l) (fitting name w p from l) (records name w p (suc n) (behind l) ls) e (records-refused ls (suc n) from m q)
      (records-refused ls (suc n) (behind l) m q)
    where
      cases :
          (b c : Bool) (o : Outcome (List (List ℕ))) →
          cond b (records name w p (suc n) from ls) (demand c 19 n (after o λ xs. ok (cond (passed_over w p l) xs (l ∷ xs)))) ≡ refused m q →
          (records name w p (suc n) from ls ≡ refused m q → m ≡ 19) → (o ≡ refused m q → m ≡ 19) → m ≡ 19
      cases true c o h i j = i h
      cases false false o h i j = sym (refused-inj h).0
      cases false true (ok xs) h i j = absurd (refused-ok m q (cond (passed_over w p l) xs (l ∷ xs)) (sym h))
      cases false true (refused a b) h i j = j h
