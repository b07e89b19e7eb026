-- Strings that mean the same letters, compared letter by letter; a beginning and an end, by what they mean.
use Prim.Native.Nat.{ℕ, zero, suc, ◌+◌, ◌-◌, ◌≤◌, ◌<◌}
use mathlib.Core.Path.{◌≡◌, refl, sym, ap, ◌∙◌}
use mathlib.Core.Bool.{Bool, true, false, not, cond}
use mathlib.Core.List.{List, [], ◌∷◌}
use borrow.Author.Tests.{eqb-true, eqb-false, not-true, not-false, eq-eqb, ne_eqb}
use lib.Bits.{bit_or}
use mathlib.Core.Bool.{◌||◌, beq, true≢false}
use Rattle.text.proofs.Truth.{some-any_below}
use Rattle.text.proofs.Tests.{beq-test}
use Rattle.text.specs.Letter.{letter, capital, base}
use Rattle.text.specs.Bits.{any_below}
use lib.Dec.{eqb}
use lib.ListN.{length, get_or, take, drop, length-map, get_or-map}
use Rattle.text.specs.Letter.{raised, meant}
use Rattle.text.specs.Compare.{same, prefix, suffix, alike}
use Rattle.text.proofs.Strings.{same-lengths, Alike, alike-none, alike-more, alike-stop, alike_all}
use Rattle.text.proofs.Strings.{prefix-short, suffix-short, part_end}

-- what is spelt has as many letters, and each is what its byte means
pub meant-length : (s : List ℕ) → length (meant s) ≡ length s
meant-length s = length-map s raised

pub meant-at : (s : List ℕ) (i : ℕ) → get_or (meant s) i 0 ≡ raised (get_or s i 0)
unfolding raised
meant-at s i = get_or-map raised s i 0

-- a part of what is spelt is what the part spells
pub take-meant : (n : ℕ) (s : List ℕ) → take n (meant s) ≡ meant (take n s)
take-meant zero s = refl
take-meant (suc n) [] = refl
take-meant (suc n) (c ∷ s) = ap (λ (l : List ℕ). raised c ∷ l) (take-meant n s)

pub drop-meant : (n : ℕ) (s : List ℕ) → drop n (meant s) ≡ meant (drop n s)
drop-meant zero s = refl
drop-meant (suc n) [] = refl
drop-meant (suc n) (c ∷ s) = drop-meant n s

-- two letters that do not differ, and two that do
pub differ_same : (a b : ℕ) → a ≡ b → false ≡ not (eqb (raised a) (raised b))
differ_same a b e = rw (e, eq-eqb (raised b) (raised b) refl)

-- the case of a letter is one bit
cased : (c : ℕ) → bit_or (raised c) 32 ≡ bit_or c 32
unfolding raised
cased c =
    step (eqb c 0x61) 0x41 _ (λ e. rw (eqb-true c 0x61 e))
    (step (eqb c 0x63) 0x43 _ (λ e. rw (eqb-true c 0x63 e))
    (step (eqb c 0x67) 0x47 _ (λ e. rw (eqb-true c 0x67 e))
    (step (eqb c 0x74) 0x54 _ (λ e. rw (eqb-true c 0x74 e)) (step (eqb c 0x6E) 0x4E c (λ e. rw (eqb-true c 0x6E e)) refl))))
  where
    step : (b : Bool) (x y : ℕ) → (b ≡ true → bit_or x 32 ≡ bit_or c 32) → bit_or y 32 ≡ bit_or c 32 → bit_or (cond b x y) 32 ≡ bit_or c 32
    step true x y h k = h refl
    step false x y h k = k

-- bytes that differ in that bit alone mean the same exactly where they are letters: one computed test over all pairs of bytes
test : ℕ → ℕ → Bool
test a b = eqb a b || not (eqb (bit_or a 32) (bit_or b 32)) || beq (eqb (raised a) (raised b)) (letter a)

all-test : any_below (λ a. any_below (λ b. not (test a b)) 256) 256 ≡ false
unfolding any_below test letter capital raised base
all-test = refl

pub differ-case : (a b : ℕ) → a < 256 → b < 256 → (a ≡ b → ⊥) → bit_or a 32 ≡ bit_or b 32 → not (letter a) ≡ not (eqb (raised a) (raised b))
unfolding test
differ-case a b l k ne e =
    let right : test a b ≡ true = go (test a b) refl in
    let same : beq (eqb (raised a) (raised b)) (letter a) ≡ true =
    rw (ne_eqb a b ne, eq-eqb (bit_or a 32) (bit_or b 32) e) at right in
    ap not (sym ((beq-test (eqb (raised a) (raised b)) (letter a)).0 same))
  where
    go : (x : Bool) → test a b ≡ x → x ≡ true
    go true f = refl
    go false f =
        let row : any_below (λ b. not (test a b)) 256 ≡ true = some-any_below (λ b. not (test a b)) 256 b k (ap not f) in
        absurd (true≢false (sym (some-any_below (λ a. any_below (λ b. not (test a b)) 256) 256 a l row) ∙ all-test))

pub differ-more : (a b : ℕ) → (bit_or a 32 ≡ bit_or b 32 → ⊥) → true ≡ not (eqb (raised a) (raised b))
differ-more a b h =
    let other : eqb (raised a) (raised b) ≡ false =
    ne_eqb (raised a) (raised b) (λ e. h (sym (cased a) ∙ ap (λ (n : ℕ). bit_or n 32) e ∙ cased b)) in
    rw other

module _ (s t : List ℕ) where
  pub like-lengths : (length s ≡ length t → ⊥) → alike s t ≡ false
  unfolding alike
  like-lengths h = same-lengths (meant s) (meant t) (λ e. h (sym (meant-length s) ∙ e ∙ meant-length t))

  pub like-none : length s ≡ length t → Alike (meant s) (meant t) 0
  like-none e = alike-none (meant s) (meant t) (meant-length s ∙ e ∙ sym (meant-length t))

  module _ (i : ℕ) (a : Alike (meant s) (meant t) i) where
    module _ (l : i < length s) {d : Bool} (is : d ≡ not (eqb (raised (get_or s i 0)) (raised (get_or t i 0)))) where
      pub like-more : d ≡ false → Alike (meant s) (meant t) (i + 1)
      like-more e =
          let k : i < length (meant s) = rw (meant-length s) l in
          let u : raised (get_or s i 0) ≡ raised (get_or t i 0) = eqb-true _ _ (not-false _ (sym is ∙ e)) in
          alike-more (meant s) (meant t) i a k (meant-at s i ∙ u ∙ sym (meant-at t i))

      pub like-stop : d ≡ true → alike s t ≡ false
      unfolding alike
      like-stop e =
          let k : i < length (meant s) = rw (meant-length s) l in
          let u = eqb-false _ _ (not-true _ (sym is ∙ e)) in
          alike-stop (meant s) (meant t) i a k (λ f. u (sym (meant-at s i) ∙ f ∙ meant-at t i))

    pub like-all : length s ≤ i → alike s t ≡ true
    unfolding alike
    like-all l = alike_all (meant s) (meant t) i a (rw (meant-length s) l)

-- a beginning and an end: a string has none that is longer, and as many of its letters as p has mean those of p
module _ (p s : List ℕ) where
  pub like-prefix-short : length s < length p → prefix (meant p) (meant s) ≡ false
  like-prefix-short l = prefix-short (meant p) (meant s) (rw (meant-length s, meant-length p) l)

  pub like-prefix : alike p (take (length p) s) ≡ prefix (meant p) (meant s)
  unfolding alike prefix
  like-prefix = ap (same (meant p)) (rw (meant-length p) (sym (take-meant (length p) s)))

  pub like-suffix-short : length s < length p → suffix (meant p) (meant s) ≡ false
  like-suffix-short l = suffix-short (meant p) (meant s) (rw (meant-length s, meant-length p) l)

  pub like-suffix : alike p (take (length s - (length s - length p)) (drop (length s - length p) s)) ≡ suffix (meant p) (meant s)
  unfolding alike suffix
  like-suffix =
      let start = length s - length p in
      ap (same (meant p)) (ap meant (part_end s start) ∙ rw (meant-length s, meant-length p) (sym (drop-meant start s)))
