-- Laws of bytes that are tested many at a time: whether one of the first that many is no letter, in whole blocks, and by a table.
use Prim.Native.Nat.{ℕ, ◌+◌, ◌-◌, ◌<◌, ◌≤◌}
use native.Mathlib.Numerals.{add-one}
use native.Mathlib.Decide.{dec_lt}
use native.Mathlib.Omega.{arith}
use mathlib.Core.Path.{◌≡◌, refl, sym, ap, ap₂, ◌∙◌}
use mathlib.Core.Logic.{by_cases}
use mathlib.Core.Bool.{Bool, true, false, not, ◌||◌, ◌&&◌, cond, true≢false}
use mathlib.Core.List.{List, [], ◌∷◌, ◌++◌}
use borrow.Author.Tests.{eqb-true, eq-eqb, le-leb, lt-leb, lt-ltb, le-ltb}
use lib.Bits.{bit_and, bit_or, and_le_l, and_le_r, or_add_and}
use lib.Dec.{eqb, leb, ltb}
use lib.ListN.{length, get_or, take, drop, length-drop, take-append-drop}
use lib.Seq.{take-suc, take_all, take-add, take-take}
use Rattle.text.specs.Letter.{base, raised, capital, letter, every, Classes, zero_for, wrong_by}
use Rattle.text.specs.Bits.{any_below}
use Rattle.text.proofs.Meanings.{letter-byte}
use Rattle.text.proofs.Letters.{every-snoc, every_append, every_take, every_drop}
use Rattle.text.proofs.Truth.{and_left, and_right, and_both, same_truth, not-true-false, some-any_below}

-- a byte without the bit of lower case is none of five exactly where it is no letter: one computed test over all bytes
apart : ℕ → Bool
apart c = not (eqb c 0x41) && not (eqb c 0x43) && not (eqb c 0x47) && not (eqb c 0x54) && not (eqb c 0x4E)

told : ℕ → Bool
told c = cond (letter c) (not (apart (bit_and c 0xDF))) (apart (bit_and c 0xDF))

all_told : any_below (λ c. not (told c)) 256 ≡ false
unfolding any_below told apart letter capital raised base
all_told = refl

pub wrong_byte : (c : ℕ) → c < 256
    → (not (eqb (bit_and c 0xDF) 0x41) && not (eqb (bit_and c 0xDF) 0x43) && not (eqb (bit_and c 0xDF) 0x47) && not (eqb (bit_and c 0xDF) 0x54)
    && not (eqb (bit_and c 0xDF) 0x4E)) ≡ not (letter c)
unfolding told apart
wrong_byte c l = step (letter c) (apart (bit_and c 0xDF)) (go (told c) refl)
  where
    go : (b : Bool) → told c ≡ b → told c ≡ true
    go true e = e
    go false e = absurd (true≢false (sym (some-any_below (λ c. not (told c)) 256 c l (ap not e)) ∙ all_told))

    step : (a b : Bool) → cond a (not b) b ≡ true → b ≡ not a
    step true true e = absurd (true≢false (sym e))
    step true false e = refl
    step false true e = refl
    step false false e = absurd (true≢false (sym e))

pub other_byte : (c : ℕ) → (not (eqb c 0x41) && not (eqb c 0x43) && not (eqb c 0x47) && not (eqb c 0x54)) ≡ not (base c)
unfolding base
other_byte c = step (eqb c 0x41) (eqb c 0x43) (eqb c 0x47) (eqb c 0x54)
  where
    step : (a b d e : Bool) → (not a && not b && not d && not e) ≡ not (a || b || d || e)
    step true b d e = refl
    step false true d e = refl
    step false false true e = refl
    step false false false e = refl

-- one more is wrong, or one before it
not-both : (a b : Bool) → (not a || not b) ≡ not (a && b)
not-both true b = refl
not-both false b = refl

module _ (f : ℕ → Bool) (s : List ℕ) where
  pub wrong-none : false ≡ not (every f (take 0 s))
  unfolding every
  wrong-none = refl

  pub wrong-more : (i : ℕ) (wrong more : Bool) → i < length s → wrong ≡ not (every f (take i s)) → more ≡ not (f (get_or s i 0))
      → (wrong || more) ≡ not (every f (take (i + 1) s))
  wrong-more i wrong more l e r =
      rw (add-one, take-suc s i 0 l, every-snoc f (take i s) (get_or s i 0), e, r) (not-both (every f (take i s)) (f (get_or s i 0)))

  pub wrong-all : (i : ℕ) (wrong : Bool) → length s ≤ i → wrong ≡ not (every f (take i s)) → wrong ≡ not (every f s)
  wrong-all i wrong l e = e ∙ ap (λ (x : List ℕ). not (every f x)) (take_all i s l)

  -- up to a place in whole blocks of n, and the last n
  abbrev pub Blocks : ℕ → ℕ → Bool → Type 0
  Blocks n at wrong = wrong ≡ not (every f (take at s) && every f (take n (drop (length s - n) s)))

  pub blocks-none : (n : ℕ) (wrong : Bool) → wrong ≡ not (every f (take n (drop (length s - n) s))) → Blocks n 0 wrong
  unfolding every
  blocks-none n wrong e = e

  pub blocks_more : (n at : ℕ) (wrong more : Bool) → Blocks n at wrong → more ≡ not (every f (take n (drop at s)))
      → Blocks n (at + n) (wrong || more)
  blocks_more n at wrong more e r =
      rw (e, r, take-add at n s, every_append f (take at s) (take n (drop at s)))
      (step (every f (take at s)) (every f (take n (drop at s))) (every f (take n (drop (length s - n) s))))
    where
      step : (a b z : Bool) → (not (a && z) || not b) ≡ not ((a && b) && z)
      step true true true = refl
      step true true false = refl
      step true false true = refl
      step true false false = refl
      step false b z = refl

  -- the last ones overlap those before
  pub blocks-all : (n at : ℕ) (wrong : Bool) → n ≤ length s → length s - n ≤ at → Blocks n at wrong → wrong ≡ not (every f s)
  blocks-all n at wrong l near e = e ∙ ap not (same_truth _ _ whole parts)
    where
      last : take n (drop (length s - n) s) ≡ drop (length s - n) s
      last =
          take_all n (drop (length s - n) s) (let z : length (drop (length s - n) s) ≤ n = omega (arith, length-drop (length s - n) s) in z)

      whole : (every f (take at s) && every f (take n (drop (length s - n) s))) ≡ true → every f s ≡ true
      whole h =
          let front : every f (take (length s - n) s) ≡ true =
          ap (every f) (sym (take-take (length s - n) at s near)) ∙ every_take f (length s - n) (take at s) (and_left _ _ h) in
          let back : every f (drop (length s - n) s) ≡ true = ap (every f) (sym last) ∙ and_right (every f (take at s)) _ h in
          ap (every f) (sym (take-append-drop (length s - n) s))
          ∙ every_append f (take (length s - n) s) (drop (length s - n) s)
          ∙ and_both _ _ front back

      parts : every f s ≡ true → (every f (take at s) && every f (take n (drop (length s - n) s))) ≡ true
      parts h = and_both _ _ (every_take f at s h) (every_take f n (drop (length s - n) s) (every_drop f (length s - n) s h))

-- numbers or-ed together are 0 exactly where both are
or-none : (a b : ℕ) → eqb (bit_or a b) 0 ≡ (eqb a 0 && eqb b 0)
or-none a b = same_truth _ _ both none
  where
    both : eqb (bit_or a b) 0 ≡ true → (eqb a 0 && eqb b 0) ≡ true
    both e =
        let nothing : bit_or a b ≡ 0 = eqb-true (bit_or a b) 0 e in
        let own : a ≡ 0 = omega (arith, nothing, or_add_and a b, and_le_r a b) in
        let more : b ≡ 0 = omega (arith, nothing, or_add_and a b, and_le_l a b) in
        and_both _ _ (eq-eqb a 0 own) (eq-eqb b 0 more)

    none : (eqb a 0 && eqb b 0) ≡ true → eqb (bit_or a b) 0 ≡ true
    none e =
        let own : a ≡ 0 = eqb-true a 0 (and_left (eqb a 0) (eqb b 0) e) in
        let more : b ≡ 0 = eqb-true b 0 (and_right (eqb a 0) (eqb b 0) e) in
        rw (own, more) refl

-- by a table: it has 0 for each of the first i exactly where nothing bad was seen
module _ (table v : List ℕ) where
  abbrev pub Clean : ℕ → ℕ → Type 0
  Clean i bad = eqb bad 0 ≡ every (zero_for table) (take i v)

  pub clean-none : Clean 0 0
  unfolding every
  clean-none = refl

  pub clean-more : (i bad : ℕ) → Clean i bad → i < length v → (c : ℕ) → c ≡ get_or v i 0 → c < 256
      → Clean (i + 1) (bit_or bad (get_or table c 0))
  clean-more i bad clean l c e small =
      let longer : take (i + 1) v ≡ take i v ++ (c ∷ []) = rw (add-one, e) (take-suc v i 0 l) in
      or-none bad (get_or table c 0)
      ∙ ap₂ (λ (t in_table : Bool). t && (in_table && eqb (get_or table c 0) 0)) clean (sym (lt-ltb c 256 small))
      ∙ sym (ap (every (zero_for table)) longer ∙ every-snoc (zero_for table) (take i v) c)

  pub clean_all : (i bad : ℕ) → Clean i bad → length v ≤ i → length v < 16 → not (eqb bad 0) ≡ wrong_by table v
  unfolding wrong_by
  clean_all i bad clean l short =
      rw (lt-leb 16 (length v) short) (ap not (clean ∙ ap (every (zero_for table)) (take_all i v l)))

  -- of 16 and more the table is not asked
  pub blocks-by : (wrong : Bool) → 16 ≤ length v → wrong ≡ not (every letter v) → wrong ≡ wrong_by table v
  unfolding wrong_by
  blocks-by wrong long e = rw (le-leb 16 (length v) long) e

-- a table of classes has 0 for the letters alone
zero-letter : (table : List ℕ) → Classes table → (c : ℕ) → zero_for table c ≡ letter c
zero-letter table classes c =
    by_cases (dec_lt c 256)
    (λ (l : c < 256).
    ap₂ (λ (in_table : Bool) (n : ℕ). in_table && eqb n 0) (lt-ltb c 256 l) (classes.each c l) ∙ step (letter c))
    (λ (l : ¬ (c < 256)).
    let far : ltb c 256 ≡ false = le-ltb c 256 (omega arith) in
    ap (λ (in_table : Bool). in_table && eqb (get_or table c 0) 0) far
    ∙ sym (not-true-false (letter c) (λ e. l (letter-byte c e))))
  where
    step : (b : Bool) → eqb (cond b 0 1) 0 ≡ b
    step true = refl
    step false = refl

pub zero-letters : (table : List ℕ) → Classes table → (v : List ℕ) → every (zero_for table) v ≡ every letter v
unfolding every
zero-letters table classes [] = refl
zero-letters table classes (c ∷ v) = ap₂ ◌&&◌ (zero-letter table classes c) (zero-letters table classes v)

-- so by it wrong is what is no letter
pub wrong-letters : {table : List ℕ} → Classes table → (v : List ℕ) → wrong_by table v ≡ not (every letter v)
unfolding wrong_by
wrong-letters {table} classes v = rw (zero-letters table classes v) (step (leb 16 (length v)) (not (every letter v)))
  where
    step : (b wrong : Bool) → cond b wrong wrong ≡ wrong
    step true wrong = refl
    step false wrong = refl
