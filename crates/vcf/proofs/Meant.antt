-- Raising letters moves no mark: what is cut from raised bytes is what was cut from the bytes, raised.
use Prim.Native.Nat.{ℕ}
use mathlib.Core.Path.{◌≡◌, refl, sym, ap, ◌∙◌}
use mathlib.Core.Bool.{Bool, true, false, cond, ◌&&◌}
use mathlib.Core.List.{List, [], ◌∷◌, map}
use borrow.Author.Tests.{eq-eqb, eqb-true}
use lib.Dec.{eqb}
use lib.ListN.{length, drop, length-map}
use Rattle.text.specs.Letter.{base, letter, capital, raised, meant, first_not}
use Rattle.text.specs.Text.{Variant}
use Rattle.text.specs.Compare.{same}
use Rattle.text.proofs.Truth.{same_truth}
use Rattle.text.proofs.Meanings.{no-letter-raised}
use Rattle.text.proofs.Likes.{meant-length}
use Rattle.layout.proofs.Raised.{drop-meant}
use Rattle.vcf.specs.Pieces.{onto, cut_at, pieces, other, end_of, Ends}
use Rattle.vcf.specs.Records.{none, alternates}

-- a byte c that is no letter
module _ (c : ℕ) (no : letter c ≡ false) where
  mark-raised : (x : ℕ) → eqb (raised x) c ≡ eqb x c
  unfolding letter
  mark-raised x =
      let own : c ≡ raised c = no-letter-raised c no in
      same_truth (eqb (raised x) c) (eqb x c)
      (λ e.
      let to : raised x ≡ c = eqb-true (raised x) c e in
      let none : letter x ≡ false = ap capital (to ∙ own) ∙ no in
      eq-eqb x c (no-letter-raised x none ∙ to))
      (λ e. eq-eqb (raised x) c (ap raised (eqb-true x c e) ∙ sym own))

  first-raised : (s : List ℕ) → first_not (other c) (meant s) ≡ first_not (other c) s
  unfolding first_not
  first-raised [] = refl
  first-raised (x ∷ s) = rw (mark-raised x, first-raised s)

  ends-meant : {s : List ℕ} {from end : ℕ} → Ends c s from end → Ends c (meant s) from end
  unfolding end_of
  ends-meant {s} {from} {end} e =
      let same : first_not (other c) (drop from (meant s)) ≡ first_not (other c) (drop from s) =
      ap (first_not (other c)) (drop-meant from s) ∙ first-raised (drop from s) in
      record { is = e.is ∙ rw same; behind = e.behind; inside = rw (meant-length s) e.inside }

  cut-raised : (end : List Variant) (s : List ℕ) → cut_at c (map meant end) (meant s) ≡ map meant (cut_at c end s)
  unfolding cut_at
  cut-raised end [] = refl
  cut-raised end (x ∷ s) = rw (mark-raised x, cut-raised end s) (step (eqb x c) (cut_at c end s))
    where
      step : (b : Bool) (l : List Variant) → cond b ([] ∷ map meant l) (onto (raised x) (map meant l)) ≡ map meant
          (cond b ([] ∷ l) (onto x l))
      step true l = refl
      step false [] = refl
      step false (v ∷ l) = refl

  pieces-meant : (s : List ℕ) → pieces c (meant s) ≡ map meant (pieces c s)
  pieces-meant s = cut-raised ([] ∷ []) s

-- commas, and an ALT field
pub comma-ends : {s : List ℕ} {from end : ℕ} → Ends 0x2C s from end → Ends 0x2C (meant s) from end
unfolding letter capital base raised
comma-ends e = ends-meant 0x2C refl e

pub comma-count : (a : List ℕ) → length (pieces 0x2C (meant a)) ≡ length (pieces 0x2C a)
unfolding letter capital base raised
comma-count a = ap length (pieces-meant 0x2C refl a) ∙ length-map (pieces 0x2C a) meant

pub none-meant : (a : List ℕ) → none (meant a) ≡ none a
unfolding none same letter capital base raised
none-meant [] = refl
none-meant (x ∷ []) = ap (λ (b : Bool). b && true) (mark-raised 0x2E refl x)
none-meant (x ∷ y ∷ a) = ap (λ (b : Bool). b && false) (mark-raised 0x2E refl x)

pub alternates-meant : (a : List ℕ) → alternates (meant a) ≡ map meant (alternates a)
unfolding alternates letter capital base raised
alternates-meant a = rw (none-meant a, pieces-meant 0x2C refl a) (step (none a))
  where
    step : (b : Bool) → cond b [] (map meant (pieces 0x2C a)) ≡ map meant (cond b [] (pieces 0x2C a))
    step true = refl
    step false = refl
