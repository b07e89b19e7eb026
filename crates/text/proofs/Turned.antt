-- Lists in reverse order with each member sent through f: the opposite of a string, and of a text.
use Prim.Native.Nat.{ℕ, suc, ◌-◌, ◌<◌, ◌≤◌}
use native.Mathlib.Omega.{arith}
use mathlib.Core.Path.{◌≡◌, refl, sym, ap, ap₂, ◌∙◌}
use mathlib.Core.List.{List, [], ◌∷◌, ◌++◌, map, reverse, reverse-cons, reverse-append, map-append}
use lib.ListN.{length, get_or, take, drop, length-reverse, length-map, length-drop, take-append-drop}
use lib.Seq.{append_snoc, split_at, take_at, drop_at, get_or_at}

module _ {A : Type 0} (f : A → A) where
  abbrev pub turned : List A → List A
  turned l = reverse (map f l)

  pub turned-cons : (a : A) (l : List A) → turned (a ∷ l) ≡ turned l ++ (f a ∷ [])
  turned-cons a l = reverse-cons (f a) (map f l)

  pub turned-append : (l k : List A) → turned (l ++ k) ≡ turned k ++ turned l
  turned-append l k = ap reverse (map-append f l k) ∙ reverse-append (map f l) (map f k)

  pub turned-length : (l : List A) → length (turned l) ≡ length l
  turned-length l = length-reverse (map f l) ∙ length-map l f

  -- turned twice
  pub turned-twice : ((a : A) → f (f a) ≡ a) → (l : List A) → turned (turned l) ≡ l
  turned-twice h [] = refl
  turned-twice h (a ∷ l) =
      ap turned (turned-cons a l) ∙ turned-append (turned l) (f a ∷ []) ∙ ap₂ (λ (b : A) (k : List A). b ∷ k) (h a) (turned-twice h l)

  -- member i stands as far from the end as it stood from the start
  pub turned-at : (l : List A) (i : ℕ) (d e : A) → i < length l → get_or (turned l) (length l - suc i) d ≡ f (get_or l i e)
  turned-at l i d e h =
      ap (λ (k : List A). get_or k (length l - suc i) d) around
      ∙ get_or_at (turned behind) (f (get_or l i e)) (turned (take i l)) d (length l - suc i) (turned-length behind ∙ length-drop (suc i) l)
    where
      behind : List A
      behind = drop (suc i) l

      around : turned l ≡ turned behind ++ (f (get_or l i e) ∷ turned (take i l))
      around =
          ap turned (split_at l i e h)
          ∙ turned-append (take i l) (get_or l i e ∷ behind)
          ∙ ap (λ (k : List A). k ++ turned (take i l)) (turned-cons (get_or l i e) behind)
          ∙ append_snoc (turned behind) (f (get_or l i e)) (turned (take i l))

  -- the first k are the last k turned, and after them stand the others
  module _ (k : ℕ) (l : List A) (h : k ≤ length l) where
    n : ℕ
    n = length l - k

    parts : turned l ≡ turned (drop n l) ++ turned (take n l)
    parts = ap turned (sym (take-append-drop n l)) ∙ turned-append (take n l) (drop n l)

    long : length (turned (drop n l)) ≡ k
    unfolding n
    long = turned-length (drop n l) ∙ length-drop n l ∙ (let z : length l - (length l - k) ≡ k = omega arith in z)

    pub take-turned : take k (turned l) ≡ turned (drop (length l - k) l)
    unfolding n
    take-turned = ap (take k) parts ∙ take_at (turned (drop n l)) (turned (take n l)) k long

    pub drop-turned : drop k (turned l) ≡ turned (take (length l - k) l)
    unfolding n
    drop-turned = ap (drop k) parts ∙ drop_at (turned (drop n l)) (turned (take n l)) k long
