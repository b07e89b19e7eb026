-- Laws of the test for repetition: how it goes on from variant to variant, and that before a variant of a walk it looks at all that
-- stand before it.
use Rattle.std.proofs.Common.{◌≡◌, ℕ, zero, suc, ◌+◌, ◌-◌, ◌<◌, ◌≤◌, true, false, ◌||◌, List, length, take, drop, sym, refl, ap, ◌∙◌, arith, length-drop, length-take, le-ltb, lt-ltb, le-leb}
use borrow.Author.Tests.{lt-leb}
use Rattle.text.specs.Text.{Variant}
use Rattle.text.specs.Letter.{meant}
use Rattle.text.specs.Compare.{alike}
use Rattle.text.proofs.Likes.{like-lengths}
use Rattle.text.specs.Bits.{any_of}
use Rattle.layout.specs.Pieces.{letters_at, next_of, repeated_before, repeats}
use Rattle.layout.specs.Reading.{among, value_of, values_from}
use Rattle.layout.specs.Prints.{repeats_at}
use Rattle.layout.specs.Skips.{stepped, behind_variants, UpTo}
use Rattle.layout.proofs.Skips.{variants-grow}
use Rattle.layout.proofs.Heads.{Whole, whole_part, value-part}

module _ (s : List ℕ) (v : Variant) (first at : ℕ) where
  -- no room for the variant itself
  pub repeats-short : length s < at + 2 + length v → repeats s v first at ≡ false
  unfolding repeats
  repeats-short l = rw (lt-leb (at + 2 + length v) (length s) l)

  pub repeats-room : at + 2 + length v ≤ length s → repeats s v first at ≡ repeated_before s v at at first
  unfolding repeats
  repeats-room room = rw (le-leb (at + 2 + length v) (length s) room)

-- letters of another length are other letters, if there are more than these
pub other_length :
    (s : List ℕ) (v : Variant) (start n : ℕ) → start + length v < length s → (n ≡ length v → ⊥) →
    alike v (take n (drop start s)) ≡ false
other_length s v start n l d =
    let long = length-take n (drop start s) in
    let left = length-drop start s in
    like-lengths v (take n (drop start s)) (λ (e : length v ≡ length (take n (drop start s))). omega (arith, long, left))

-- the test stands at `place`, and `rest` bounds the variants that are left
pub before-none : (s : List ℕ) (v : Variant) (at rest place : ℕ) → at ≤ place → repeated_before s v at rest place ≡ false
unfolding repeated_before
before-none s v at zero place l = refl
before-none s v at (suc n) place l = rw (le-ltb place at l)

module _ (s : List ℕ) (v : Variant) (at rest place : ℕ) (enough : at ≤ place + rest) (l : place < at) where
  one_more : repeated_before s v at rest place ≡ (alike v (letters_at s place) || repeated_before s v at (rest - 1) (next_of s place))
  unfolding repeated_before
  one_more =
      let e : rest ≡ suc (rest - 1) = omega arith in
      ap (λ (n : ℕ). repeated_before s v at n place) e ∙ rw (lt-ltb place at l)

  pub before-found : alike v (letters_at s place) ≡ true → repeated_before s v at rest place ≡ true
  before-found e = one_more ∙ rw e

  pub before-other :
      alike v (letters_at s place) ≡ false → repeated_before s v at rest place ≡ repeated_before s v at (rest - 1) (next_of s place)
  before-other e = one_more ∙ rw e

-- the k variants from `place` on that end at `at` are all that begin before it
module _ (s : List ℕ) (v : Variant) (at : ℕ) where
  before-all : (k n place : ℕ) → behind_variants s k place ≡ at → k ≤ n
      → repeated_before s v at n place ≡ among (meant v) (values_from s k place)
  unfolding repeated_before among any_of values_from stepped alike
  before-all zero zero place e l = refl
  before-all zero (suc n) place e l =
      let here : at ≤ place = omega arith in
      rw (le-ltb place at here)
  before-all (suc k) zero place e l = absurd (let z : ⊥ = omega arith in z)
  before-all (suc k) (suc n) place e l =
      let others : behind_variants s k (next_of s place) ≡ at = e in
      let grown : next_of s place ≤ at = omega (arith, variants-grow s k (next_of s place)) in
      let ahead : place < at = omega arith in
      rw (lt-ltb place at ahead, before-all k n (next_of s place) others (omega arith), value-part s place)

  few : (k place : ℕ) → behind_variants s k place ≡ at → place + k ≤ at
  unfolding stepped
  few zero place e = omega arith
  few (suc k) place e =
      let others : behind_variants s k (next_of s place) ≡ at = e in
      omega (arith, few k (next_of s place) others)

-- the test before a variant that a walk has reached
pub repeats-walk :
    (s : List ℕ) (first k at start next : ℕ) → UpTo s first k at → Whole s at start next →
    repeats s (take (next - start) (drop start s)) first at ≡ among (meant (take (next - start) (drop start s))) (values_from s k first)
repeats-walk s first k at start next up w =
    let v : Variant = take (next - start) (drop start s) in
    let left = length-drop start s in
    let long : length v ≡ next - start = length-take (next - start) (drop start s) ∙ omega (arith, w.starts, w.ends, w.inside) in
    let room : at + 2 + length v ≤ length s = omega (arith, w.starts, w.ends, w.inside) in
    let enough : k ≤ at = omega (arith, few s v at k first up.ends) in
    repeats-room s v first at room ∙ before-all s v at k at first up.ends enough

-- the same of the variant that stands there
pub repeats-at-walk :
    (s : List ℕ) (first k at start next : ℕ) → UpTo s first k at → Whole s at start next →
    repeats_at s first at ≡ among (value_of s at) (values_from s k first)
unfolding repeats_at
repeats-at-walk s first k at start next up w =
    let spells : meant (take (next - start) (drop start s)) ≡ value_of s at =
    ap meant (whole_part s at start next w) ∙ sym (value-part s at) in
    rw (le-leb (next_of s at) (length s) w.inside, ← whole_part s at start next w, repeats-walk s first k at start next up w, spells)

-- as it is asked: of a variant that is there, and of one that is cut off
pub repeats-at-cut : (s : List ℕ) (first at : ℕ) → length s < next_of s at → repeats_at s first at ≡ false
unfolding repeats_at
repeats-at-cut s first at l = rw (lt-leb (next_of s at) (length s) l)

pub repeats-at-whole : (s : List ℕ) (first at start next : ℕ) → Whole s at start next
    → repeats s (take (next - start) (drop start s)) first at ≡ repeats_at s first at
unfolding repeats_at
repeats-at-whole s first at start next w = rw (le-leb (next_of s at) (length s) w.inside, whole_part s at start next w)
