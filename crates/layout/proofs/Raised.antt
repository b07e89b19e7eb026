-- Raised letters: parts of them, the first wrong one, and comparisons.
use Rattle.std.proofs.Common.{◌≡◌, ℕ, zero, suc, cond, List, [], ◌∷◌, map, take, drop, sym, refl, ap, ◌∙◌}
use Rattle.text.specs.Letter.{letter, capital, meant, first_not}
use Rattle.text.specs.Text.{Variant, Segment}
use Rattle.text.specs.Compare.{same, alike}
use Rattle.layout.specs.Reading.{among}

pub take-map : {A B : Type 0} (f : A → B) (n : ℕ) (l : List A) → take n (map f l) ≡ map f (take n l)
take-map f zero l = refl
take-map f (suc n) [] = refl
take-map f (suc n) (a ∷ l) = ap (λ k. f a ∷ k) (take-map f n l)

pub drop-map : {A B : Type 0} (f : A → B) (n : ℕ) (l : List A) → drop n (map f l) ≡ map f (drop n l)
drop-map f zero l = refl
drop-map f (suc n) [] = refl
drop-map f (suc n) (a ∷ l) = drop-map f n l

pub drop-meant : (at : ℕ) (l : List ℕ) → drop at (meant l) ≡ meant (drop at l)
drop-meant at l = drop-map _ at l

pub part-meant : (l : List ℕ) (at n : ℕ) → meant (take n (drop at l)) ≡ take n (drop at (meant l))
part-meant l at n = sym (ap (take n) (drop-map _ at l) ∙ take-map _ n (drop at l))

-- the first byte that is no letter
pub first-meant : (v : List ℕ) → first_not letter v ≡ first_not capital (meant v)
unfolding first_not letter
first-meant [] = refl
first-meant (c ∷ v) = ap (λ n. cond (letter c) (suc n) 0) (first-meant v)

pub first_part : (l : List ℕ) (at n : ℕ) {w : ℕ} → w ≡ first_not letter (take n (drop at l))
    → w ≡ first_not capital (take n (drop at (meant l)))
first_part l at n e = e ∙ first-meant (take n (drop at l)) ∙ ap (first_not capital) (part-meant l at n)

-- comparisons
pub alike-part : (v l : List ℕ) (at n : ℕ) → alike v (take n (drop at l)) ≡ same (meant v) (take n (drop at (meant l)))
unfolding alike
alike-part v l at n = ap (same (meant v)) (part-meant l at n)

pub among-part : (l : List ℕ) (at n : ℕ) (seen : Segment)
    → among (meant (take n (drop at l))) seen ≡ among (take n (drop at (meant l))) seen
among-part l at n seen = ap (λ (v : Variant). among v seen) (part-meant l at n)
