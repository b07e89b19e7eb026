-- Things read one after another, seen as a row: each stands where the one before it ends. `many` accepts a row, and a row is
-- what it accepts; so what holds of each thing read holds of all of them, and bytes that are written one after another are read.
use Rattle.std.proofs.Common.{◌≡◌, ℕ, zero, suc, ◌+◌, Bool, true, ◌&&◌, List, [], ◌∷◌, ◌++◌, length, sym, refl, ap, ◌∙◌, append_assoc, append-nil, add_assoc, arith, length-append}
use mathlib.Core.Bool.{and_assoc}
use Rattle.text.specs.Refusal.{Outcome, ok}
use Rattle.text.proofs.Truth.{and_both}
use Rattle.text.proofs.Outcomes.{ok-inj, after-met}
use Rattle.layout.specs.Reading.{Taken, many}
use Rattle.layout.specs.Encoding.{bytes_of, all}
use Rattle.layout.proofs.Stands.{Bytes, Stands, stands-both, stands-front, stands-back}

-- what all of two lists have, all of both have
pub all_append : {A : Type 0} (f : A → Bool) (l k : List A) → all f (l ++ k) ≡ (all f l && all f k)
unfolding all
all_append f [] k = refl
all_append f (a ∷ l) k = rw (all_append f l k) (sym (and_assoc (f a) (all f l) (all f k)))

-- the bytes of two lists, one after another
pub bytes-append : {A : Type 0} (f : A → List ℕ) (l k : List A) → bytes_of f (l ++ k) ≡ bytes_of f l ++ bytes_of f k
unfolding bytes_of
bytes-append f [] k = refl
bytes-append f (a ∷ l) k = rw (bytes-append f l k) (sym (append_assoc (f a) (bytes_of f l) (bytes_of f k)))

-- the members of l are read by f one after another, the first after those seen, and `next` is the place after the last
unfoldable pub Row : {A B : Type 0} → (List A → B → Outcome (Taken A B)) → List A → B → List A → B → Type 0
Row f seen at [] next = at ≡ next
Row {B = B} f seen at (a ∷ l) next =
    (place : B) × (f seen at ≡ ok (record { value = a; next = place })) × Row f (seen ++ (a ∷ [])) place l next

module _ {A B : Type 0} (f : List A → B → Outcome (Taken A B)) where
  -- what many things read are: those seen, and a row after them
  pub record Many (n : ℕ) (seen : List A) (at : B) (x : Taken (List A) B) : Type 0 where
    pub more : List A
    pub value : x.value ≡ seen ++ more
    pub count : length more ≡ n
    pub row : Row f seen at more x.next

  pub many-row : (n : ℕ) (seen : List A) (at : B) (x : Taken (List A) B) → many f n seen at ≡ ok x → Many n seen at x
  unfolding many Row
  many-row zero seen at x e =
      let p : record { value = seen; next = at } ≡ x = ok-inj e in
      record {
        more = [];
        value = sym (ap (λ (y : Taken (List A) B). y.value) p) ∙ sym (append-nil seen);
        count = refl;
        row = ap (λ (y : Taken (List A) B). y.next) p;
      }
  many-row (suc n) seen at x e =
      let t = after-met (f seen at) (λ y. many f n (seen ++ (y.value ∷ [])) y.next) x e in
      let m = many-row n (seen ++ (t.0.value ∷ [])) t.0.next x t.2 in
      record {
        more = t.0.value ∷ m.more;
        value = m.value ∙ append_assoc seen (t.0.value ∷ []) m.more;
        count = ap suc m.count;
        row = (t.0.next, t.1, m.row);
      }

  pub row-many :
      (l seen : List A) (at next : B) → Row f seen at l next →
      many f (length l) seen at ≡ ok (record { value = seen ++ l; next = next })
  unfolding many Row
  row-many [] seen at next r = rw (append-nil, r)
  row-many (a ∷ l) seen at next r =
      rw r.1 (row-many l (seen ++ (a ∷ [])) r.0 next r.2 ∙ rw append_assoc)

  -- what each read gives, all have
  pub row-all :
      (g : A → Bool) → ((seen : List A) (at : B) (x : Taken A B) → f seen at ≡ ok x → g x.value ≡ true) →
      (l seen : List A) (at next : B) → Row f seen at l next → all g l ≡ true
  unfolding Row all
  row-all g h [] seen at next r = refl
  row-all g h (a ∷ l) seen at next r =
      and_both (g a) (all g l) (h seen at _ r.1) (row-all g h l (seen ++ (a ∷ [])) r.0 next r.2)

-- what was read from `at` to `next` has the bytes b, and they stand there
pub record Parts (s : List ℕ) (at next : ℕ) (b : List ℕ) : Type 0 where
  pub ends : next ≡ at + length b
  pub stands : Bytes s → Stands s at b

module _ {A : Type 0} (s : List ℕ) (f : List A → ℕ → Outcome (Taken A ℕ)) (e : A → List ℕ) where
  -- where each thing read spans its bytes, a row spans theirs
  pub row-spans :
      ((seen : List A) (at : ℕ) (x : Taken A ℕ) → f seen at ≡ ok x → Parts s at x.next (e x.value)) →
      (l seen : List A) (at next : ℕ) → Row f seen at l next → Parts s at next (bytes_of e l)
  unfolding Row bytes_of
  row-spans h [] seen at next r = record { ends = omega arith; stands = λ _. refl }
  row-spans h (a ∷ l) seen at next r =
      let p : Parts s at r.0 (e a) = h seen at (record { value = a; next = r.0 }) r.1 in
      let q = row-spans h l (seen ++ (a ∷ [])) r.0 next r.2 in
      record {
        ends = rw length-append (omega arith);
        stands = λ bytes. stands-both s at (e a) (bytes_of e l) (p.stands bytes) (rw (← p.ends) (q.stands bytes));
      }

  -- bytes that stand one after another are read, where each that is good is read
  module _ (Good : List A → List A → Type 0)
      (reads : (seen : List A) (a : A) (l : List A) (at : ℕ) → Good seen (a ∷ l) → Stands s at (e a) →
      f seen at ≡ ok (record { value = a; next = at + length (e a) }))
      (onward : (seen : List A) (a : A) (l : List A) → Good seen (a ∷ l) → Good (seen ++ (a ∷ [])) l)
    where
      pub written_row : (l seen : List A) (at : ℕ) → Good seen l → Stands s at (bytes_of e l) → Row f seen at l (at + length (bytes_of e l))
      unfolding Row bytes_of
      written_row [] seen at g h = omega arith
      written_row (a ∷ l) seen at g h = (
        at + length (e a),
        reads seen a l at g (stands-front s at (e a) (bytes_of e l) h),
        rw (length-append, ← add_assoc)
            (written_row l (seen ++ (a ∷ [])) (at + length (e a)) (onward seen a l g) (stands-back s at (e a) (bytes_of e l) h)),
      )
