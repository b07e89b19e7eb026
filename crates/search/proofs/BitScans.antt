-- The search by bit-vectors, letter by letter: the tables as they are filled, and the word as it is shifted.
use Prim.Native.Nat.{ℕ, zero, suc, ◌+◌, ◌-◌, ◌*◌, ◌/◌, ◌%◌, ◌^◌, ◌≤◌, ◌<◌, min}
use native.Mathlib.Nat.{pow-suc, one-mul, mod-lt, mod-eq_of_lt}
use native.Mathlib.Numerals.{add-one, one-add}
use native.Mathlib.Decide.{dec_lt, ℕ_discrete}
use native.Mathlib.Omega.{arith}
use mathlib.Core.Path.{◌≡◌, refl, sym, ap, ap₂, subst, subst₂, ◌∙◌}
use mathlib.Core.Logic.{by_cases}
use mathlib.Core.Bool.{Bool, true, false, not, cond, ◌||◌, ◌&&◌}
use mathlib.Core.List.{List, [], ◌∷◌}
use borrow.Author.Tests.{lt-ltb, le-ltb, eq-eqb, ne_eqb}
use lib.Arith.{digits_div}
use lib.Bits.{bit_and, bit_or, bit_xor, and_le_r, and_comm, and_mask, or_lt, or_zero_r, xor_zero_l, xor_zero_r}
use lib.Dec.{eqb, ltb, lit<}
use lib.ListN.{length, get_or, take, set, replicate, length-set, length-take, length-replicate, get_or-replicate}
use lib.Pow.{pow_pos, pow-lt, pow_mono, ones_sub-lt}
use lib.Seq.{take-suc, take_all, get_or-take, get_or-set_same, get_or-set_other}
use Rattle.text.proofs.Snoc.{◌▸◌}
use Rattle.text.specs.Letter.{raised, letter, meant, every, zero_for}
use Rattle.text.specs.Text.{Variant}
use Rattle.text.specs.Bits.{bit, from_bits}
use Rattle.text.specs.State.{next, ends_at}
use Rattle.text.proofs.Truth.{or-false}
use Rattle.text.proofs.Blocks.{clean-more, zero-letters}
use Rattle.text.proofs.Likes.{meant-length, meant-at}
use Rattle.text.proofs.Bits.{bit-ext, bit-above, bit-zero, bit-or, bit-and, bit-from_bits, from_bits-lt, bit-single, bit-shl, bit-shl-below}
use Rattle.text.proofs.Bits.{bit-mod, bit-mod-above, bit-shr-test}
use Rattle.text.proofs.Steps.{next-open}
use Rattle.text.proofs.Scan.{one-ends, empty-state, empty-ends, scan_state, scan-ends}
use Rattle.search.specs.Masks.{mask_of, bases, Masks, others, Others, Filled, Ready}
use Rattle.search.specs.Words.{Words, Turned}
use Rattle.search.proofs.Copies.{Listed}
use Rattle.search.proofs.Turns.{others-twice, others-or, others-shift, missed-all, and-and, xor-more, xor-full}

-- one bit more
bits-more : (f : ℕ → Bool) (k : ℕ) → from_bits f (suc k) ≡ bit_or (from_bits f k) (cond (f k) (2 ^ k) 0)
bits-more f k =
    bit-ext (suc k) (from_bits f (suc k)) (bit_or (from_bits f k) (cond (f k) (2 ^ k) 0))
    (from_bits-lt f (suc k)) (or_lt (suc k) _ _ below (top (f k))) each
  where
    below : from_bits f k < 2 ^ suc k
    below = omega (arith, from_bits-lt f k, pow-suc 2 k)

    top : (b : Bool) → cond b (2 ^ k) 0 < 2 ^ suc k
    top true = pow-lt (let z : k < suc k = omega arith in z)
    top false = pow_pos (suc k)

    bit-top : (b : Bool) (r : ℕ) → r < k → bit (cond b (2 ^ k) 0) r ≡ false
    bit-top true r l = bit-single k r ∙ ne_eqb k r (λ e. omega arith)
    bit-top false r l = bit-zero r

    at_top : (b : Bool) → bit (cond b (2 ^ k) 0) k ≡ b
    at_top true = bit-single k k ∙ eq-eqb k k refl
    at_top false = bit-zero k

    each : (r : ℕ) → r < suc k → bit (from_bits f (suc k)) r ≡ bit (bit_or (from_bits f k) (cond (f k) (2 ^ k) 0)) r
    each r l =
        by_cases (dec_lt r k)
        (λ (h : r < k).
        bit-from_bits f (suc k) r l
        ∙ sym (bit-or (from_bits f k) (cond (f k) (2 ^ k) 0) r ∙ rw (bit-from_bits f k r h, bit-top (f k) r h) (or-false (f r))))
        (λ (h : ¬ (r < k)).
        let e : r ≡ k = omega arith in
        rw e
        (bit-from_bits f (suc k) k (let z : k < suc k = omega arith in z)
        ∙ sym (bit-or (from_bits f k) (cond (f k) (2 ^ k) 0) k
        ∙ rw (bit-above (from_bits f k) k k (from_bits-lt f k) (let z : k ≤ k = omega arith in z), at_top (f k)))))

-- k bases are entered into the table of blank words
pub record Filling (blank : ℕ) (P table : List ℕ) (k : ℕ) : Type 0 where
  pub most : k ≤ length P
  pub full : length table ≡ 256
  pub each : (c : ℕ) → c < 256 → get_or table c 0 ≡ bit_xor blank (from_bits (λ j. eqb (get_or P j 0) c) k)

pub filling-none : (blank : ℕ) (P : List ℕ) → Filling blank P (replicate 256 blank) 0
unfolding from_bits
filling-none blank P =
    record {
      most = omega arith;
      full = length-replicate {A = ℕ} 256 blank;
      each = λ c l. get_or-replicate {A = ℕ} 256 c blank 0 l ∙ sym (xor_zero_r blank);
    }

-- base k is entered at its byte b
pub filling-more : (blank : ℕ) (P table : List ℕ) (k b : ℕ) → Filling blank P table k → k < length P → k < 64
    → b ≡ get_or P k 0 → b < 256
    → Filling blank P (set table b (bit_xor (get_or table b 0) (1 * 2 ^ k % 2 ^ 64))) (k + 1)
filling-more blank P table k b f l short e small =
    record { most = omega arith; full = length-set table b _ ∙ f.full; each = each }
  where
    one : 1 * 2 ^ k % 2 ^ 64 ≡ 2 ^ k
    one =
        let fits : 2 ^ k < 2 ^ 64 = pow-lt short in
        ap (λ (n : ℕ). n % 2 ^ 64) (one-mul (2 ^ k)) ∙ mod-eq_of_lt fits

    test : ℕ → ℕ → Bool
    test c j = eqb (get_or P j 0) c

    each : (c : ℕ) → c < 256
        → get_or (set table b (bit_xor (get_or table b 0) (1 * 2 ^ k % 2 ^ 64))) c 0 ≡ bit_xor blank (from_bits (λ j. eqb (get_or P j 0) c) (k + 1))
    each c h =
        by_cases (ℕ_discrete c b)
        (λ (same : c ≡ b).
        let inside : b < length table = omega (arith, f.full) in
        rw (same, add-one)
        (get_or-set_same table b _ 0 inside ∙ ap₂ bit_xor (f.each b small) one
        ∙ xor-more blank (from_bits (test b) k) k (from_bits-lt (test b) k)
        ∙ sym
        (ap (bit_xor blank)
        (bits-more (test b) k ∙ ap (λ (t : Bool). bit_or (from_bits (test b) k) (cond t (2 ^ k) 0)) (eq-eqb (get_or P k 0) b (sym e))))))
        (λ (other : ¬ (c ≡ b)).
        rw add-one
        (get_or-set_other table b c _ 0 other ∙ f.each c h
        ∙ sym
        (ap (bit_xor blank)
        (bits-more (test c) k
        ∙ ap (λ (t : Bool). bit_or (from_bits (test c) k) (cond t (2 ^ k) 0)) (ne_eqb (get_or P k 0) c (λ z. other (sym z ∙ sym e)))
        ∙ or_zero_r (from_bits (test c) k)))))

pub filling-all : (blank : ℕ) (P table : List ℕ) (k : ℕ) → Filling blank P table k → length P ≤ k → Listed (λ c. c) blank P table
unfolding mask_of
filling-all blank P table k f l =
    let e : k ≡ length P = omega (arith, f.most) in
    record { full = f.full; each = λ c h. f.each c h ∙ ap (λ (n : ℕ). bit_xor blank (from_bits (λ j. eqb (get_or P j 0) c) n)) e }

-- a letter vector has bits below m alone
mask_lt : (P : List ℕ) (c : ℕ) → mask_of P c < 2 ^ length P
unfolding mask_of
mask_lt P c = from_bits-lt (λ k. eqb (get_or P k 0) c) (length P)

mask-near : (P : List ℕ) (c : ℕ) → length P ≤ 64 → mask_of P c < 2 ^ 64
mask-near P c short = omega (arith, mask_lt P c, pow_mono short)

-- what is turned in a word of zeros, and in one of ones
pub filled-masks : (P table : List ℕ) → Filled 0 P table → Masks P table
filled-masks P table f = record { full = f.full; each = λ c l. f.each c l ∙ xor_zero_l (mask_of P (raised c)) }

pub filled-others : (P table : List ℕ) → length P ≤ 64 → Filled 0xffff_ffff_ffff_ffff P table → Others P table
filled-others P table short f =
    record { full = f.full; each = λ c l. f.each c l ∙ turned (mask_of P (raised c)) (mask-near P (raised c) short) }
  where
    turned : (x : ℕ) → x < 2 ^ 64 → bit_xor 0xffff_ffff_ffff_ffff x ≡ others x
    turned x l = xor-full 0xffff_ffff_ffff_ffff x (and_comm 0xffff_ffff_ffff_ffff x ∙ and_mask x 64 ∙ mod-eq_of_lt l)

-- of a pattern over 64 bytes the first 64 are entered
module _ (P : List ℕ) where
  pub bases-length : min (length P) 64 ≡ length (bases P)
  unfolding bases
  bases-length = simp length-take (omega arith)

  pub bases-all : length P ≤ 64 → bases P ≡ P
  unfolding bases
  bases-all l = take_all 64 P l

  pub bases-most : length (bases P) ≤ 64
  unfolding bases
  bases-most = omega (arith, length-take 64 P)

  -- a base that is entered stands where it stands in the pattern
  module _ (k : ℕ) (l : k < length (bases P)) where
    pub bases-near : k < 64
    unfolding bases
    bases-near = omega (arith, length-take 64 P)

    pub bases-inside : k < length P
    unfolding bases
    bases-inside = omega (arith, length-take 64 P)

    pub bases-at : get_or P k 0 ≡ get_or (bases P) k 0
    unfolding bases
    bases-at = sym (get_or-take 64 P k 0 bases-near)

-- the tables of a pattern of at most 64 bytes
pub masks-short : (P table : List ℕ) → length P ≤ 64 → Others (bases P) table → Others P table
masks-short P table l m = rw (bases-all P l) at m

pub told-short : (P table : List ℕ) → length P ≤ 64 → Masks (bases P) table → Masks P table
told-short P table l m = rw (bases-all P l) at m

-- a letter keeps those bits of a word whose base it means
module _ (P : List ℕ) (d c w : ℕ) (is : w ≡ mask_of P (raised c)) where
  vector-bit : (r : ℕ) → r < length P → bit (bit_and d w) r ≡ (bit d r && eqb (get_or P r 0) (raised c))
  unfolding mask_of
  vector-bit r h =
      bit-and d w r
      ∙ ap (λ (b : Bool). bit d r && b) (ap (λ (n : ℕ). bit n r) is ∙ bit-from_bits (λ k. eqb (get_or P k 0) (raised c)) (length P) r h)

  vector-lt : bit_and d w < 2 ^ length P
  vector-lt = omega (arith, and_le_r d w, is, mask_lt P (raised c))

module _ (P masks : List ℕ) (vectors : Masks P masks) (d c : ℕ) (small : c < 256) where
  pub kept-bit : (r : ℕ) → r < length P → bit (bit_and d (get_or masks c 0)) r ≡ (bit d r && eqb (get_or P r 0) (raised c))
  kept-bit = vector-bit P d c (get_or masks c 0) (vectors.each c small)

  pub kept-lt : bit_and d (get_or masks c 0) < 2 ^ length P
  kept-lt = vector-lt P d c (get_or masks c 0) (vectors.each c small)

none-bad : (v : Variant) → eqb 0 0 ≡ every letter (take 0 v)
unfolding every
none-bad v = refl

-- i of the bytes v have been read, for what they mean
pub record Scanning (P : List ℕ) (st : ℕ) (v : Variant) (i d hits bad : ℕ) : Type 0 where
  pub inside : i ≤ length v
  pub state : (r : ℕ) → r < length P → bit d r ≡ bit (next P st (take i (meant v) ∷ [])) r
  pub fits : hits < 2 ^ length P
  pub ended : bit hits (length P - 1) ≡ ends_at P st (take i (meant v))
  pub clean : eqb bad 0 ≡ every letter (take i v)

pub scanning-none : (P masks classes : List ℕ) (st : ℕ) (v : Variant) → Ready P masks classes st → Scanning P st v 0 st 0 0
scanning-none P masks classes st v y =
    record {
      inside = omega arith;
      state = λ r l. ap (λ (n : ℕ). bit n r) (sym (empty-state P st y.some y.state.small));
      fits = pow_pos (length P);
      ended = bit-zero (length P - 1) ∙ sym (empty-ends P st y.some);
      clean = none-bad v;
    }

module _ (P masks classes : List ℕ) (st : ℕ) (v : Variant) (i d hits bad : ℕ) (y : Ready P masks classes st)
    (s : Scanning P st v i d hits bad) (l : i < length v) (c : ℕ) (e : c ≡ get_or v i 0) (small : c < 256)
    (w : ℕ) (is : w ≡ mask_of P (raised c)) where
  -- what they mean is longer by what c means
  spelt : take (i + 1) (meant v) ≡ take i (meant v) ▸ raised c
  spelt =
      let inside : i < length (meant v) = rw (meant-length v) l in
      rw add-one (take-suc (meant v) i 0 inside ∙ ap (λ (x : ℕ). take i (meant v) ▸ x) (meant-at v i ∙ ap raised (sym e)))

  kept : (r : ℕ) → r < length P
      → bit (bit_and d w) r ≡ (bit (next P st (take i (meant v) ∷ [])) r && eqb (get_or P r 0) (raised c))
  kept r h = vector-bit P d c w is r h ∙ ap (λ (b : Bool). b && eqb (get_or P r 0) (raised c)) (s.state r h)

  shifted : (r : ℕ) → r < length P
      → bit (bit_or (bit_and d w * 2 ^ 1 % 2 ^ 64) (st % 2)) r ≡ bit (next P st (take (i + 1) (meant v) ∷ [])) r
  shifted zero h =
      bit-or _ (st % 2) 0
      ∙ ap₂ ◌||◌ (bit-mod (bit_and d w * 2 ^ 1) 64 0 (lit< tt) ∙ bit-shl-below (bit_and d w) 1 0 (lit< tt)) (bit-mod st 1 0 (lit< tt))
      ∙ sym (next-open P st (take (i + 1) (meant v) ∷ []) y.some)
  shifted (suc r) h =
      let near : suc r < 64 = omega (arith, y.short) in
      let before : r < length P = omega arith in
      bit-or _ (st % 2) (suc r)
      ∙ ap₂ ◌||◌
      (bit-mod (bit_and d w * 2 ^ 1) 64 (suc r) near ∙ rw (← one-add r) (bit-shl (bit_and d w) 1 r) ∙ kept r before)
      (bit-mod-above st 1 (suc r) (omega arith))
      ∙ or-false _
      ∙ sym (ap (λ (t : List ℕ). bit (next P st (t ∷ [])) (suc r)) spelt ∙ scan_state P st (take i (meant v)) (raised c) r h)

  ends_more : bit (bit_or hits (bit_and d w)) (length P - 1) ≡ ends_at P st (take (i + 1) (meant v))
  ends_more =
      let long : length P ≡ suc (length P - 1) = omega (arith, y.some) in
      let last : length P - 1 < length P = omega (arith, y.some) in
      bit-or hits _ (length P - 1)
      ∙ ap₂ ◌||◌ s.ended (kept (length P - 1) last)
      ∙ sym (ap (ends_at P st) spelt ∙ scan-ends P st (take i (meant v)) (raised c) (length P - 1) long)

  scanning-more : Scanning P st v (i + 1) (bit_or (bit_and d w * 2 ^ 1 % 2 ^ 64) 1) (bit_or hits (bit_and d w)) (bit_or bad (get_or classes c 0))
  scanning-more =
      record {
        inside = omega arith;
        state = λ r h. ap (λ (n : ℕ). bit (bit_or (bit_and d w * 2 ^ 1 % 2 ^ 64) n) r) (sym y.state.odd) ∙ shifted r h;
        fits = or_lt (length P) hits (bit_and d w) s.fits (vector-lt P d c w is);
        ended = ends_more;
        clean =
            let clean : eqb bad 0 ≡ every (zero_for classes) (take i v) = s.clean ∙ sym (zero-letters classes y.letters (take i v)) in
            clean-more classes v i bad clean l c e small ∙ zero-letters classes y.letters (take (i + 1) v);
      }

-- a number below 2 ^ (n + 1) has bit n exactly when it is above 2 ^ n - 1
pub top_bit : (n x : ℕ) → x < 2 ^ suc n → ltb (2 ^ n - 1) x ≡ bit x n
top_bit n x l =
    by_cases (dec_lt x (2 ^ n))
    (λ (h : x < 2 ^ n). le-ltb (2 ^ n - 1) x (let z : x ≤ 2 ^ n - 1 = omega arith in z)
    ∙ sym (bit-above x n n h (let z : n ≤ n = omega arith in z)))
    (λ (h : ¬ (x < 2 ^ n)).
    let rest : x - 2 ^ n < 2 ^ n = omega (arith, pow-suc 2 n) in
    let whole : 1 * 2 ^ n + (x - 2 ^ n) ≡ x = omega arith in
    lt-ltb (2 ^ n - 1) x (let z : 2 ^ n - 1 < x = omega (arith, pow_pos n) in z)
    ∙ sym (sym (bit-shr-test x n) ∙ ap (λ (y : ℕ). eqb (y % 2) 1) (ap (λ (y : ℕ). y / 2 ^ n) (sym whole) ∙ digits_div 1 rest)))

-- all have been read
module _ (P : List ℕ) (st : ℕ) (v : Variant) (i d hits bad : ℕ) (s : Scanning P st v i d hits bad) (l : length v ≤ i) where
  all : take i (meant v) ≡ meant v
  all = take_all i (meant v) (rw (meant-length v) l)

  scanning-all : Words P st (meant v ∷ []) d hits
  scanning-all =
      record {
        state = λ r h. s.state r h ∙ ap (λ (t : List ℕ). bit (next P st (t ∷ [])) r) all;
        fits = s.fits;
        end = s.ended ∙ ap (ends_at P st) all ∙ sym (one-ends P st (meant v));
      }

  pub scanning-wrong : not (eqb bad 0) ≡ not (every letter v)
  scanning-wrong = ap not (s.clean ∙ ap (every letter) (take_all i v l))

-- the same with the complement kept, as the code has it
pub record Turning (P : List ℕ) (st : ℕ) (v : Variant) (i before out missed bad : ℕ) : Type 0 where
  pub fits : before < 2 ^ 64
  pub word : out < 2 ^ 64
  pub hits : ℕ
  pub near : hits < 2 ^ 64
  pub rest : missed ≡ bit_and before (others hits)
  pub scanning : Scanning P st v i (others out) hits bad

pub turning-none : (P masks classes : List ℕ) (st : ℕ) (v : Variant) (before : ℕ) → before < 2 ^ 64 → Ready P masks classes st
    → Turning P st v 0 before (others st) before 0
turning-none P masks classes st v before fits y =
    let small : st < 2 ^ 64 = omega (arith, y.state.small, pow_mono y.short) in
    record {
      fits = fits;
      word = ones_sub-lt 64 st;
      hits = 0;
      near = lit< tt;
      rest = missed-all before fits;
      scanning = subst (λ (n : ℕ). Scanning P st v 0 n 0 0) (sym (others-twice st small)) (scanning-none P masks classes st v y);
    }

pub turning-start : (P masks classes : List ℕ) (st : ℕ) (v : Variant) (before : ℕ) → before < 2 ^ 64 → Ready P masks classes st
    → (out : ℕ) → out ≡ others st → Turning P st v 0 before out before 0
turning-start P masks classes st v before fits y out is = rw is (turning-none P masks classes st v before fits y)

-- a letter more, with the entry t of its byte
pub turning-more : (P masks classes : List ℕ) (st : ℕ) (v : Variant) (i before out missed bad : ℕ) → Ready P masks classes st
    → Turning P st v i before out missed bad → i < length v → (c : ℕ) → c ≡ get_or v i 0 → c < 256 → (t : ℕ) → get_or masks c 0 ≡ t
    → Turning P st v (i + 1) before (bit_or out t * 2 ^ 1 % 2 ^ 64) (bit_and missed (bit_or out t)) (bit_or bad (get_or classes c 0))
turning-more P masks classes st v i before out missed bad y s l c e small t at =
    let vector : t ≡ others (mask_of P (raised c)) = sym at ∙ y.vectors.each c small in
    let lt : t < 2 ^ 64 = omega (arith, vector) in
    let on = bit_or out t in
    let lo : on < 2 ^ 64 = or_lt 64 out t s.word lt in
    let is : others t ≡ mask_of P (raised c) =
    ap others vector ∙ others-twice (mask_of P (raised c)) (mask-near P (raised c) y.short) in
    let kept : bit_and (others out) (others t) ≡ others on = others-or out s.word t lt in
    let more = scanning-more P masks classes st v i (others out) s.hits bad y s.scanning l c e small (others t) is in
    let shifted : bit_or (bit_and (others out) (others t) * 2 ^ 1 % 2 ^ 64) 1 ≡ others (on * 2 ^ 1 % 2 ^ 64) =
    ap (λ (n : ℕ). bit_or (n * 2 ^ 1 % 2 ^ 64) 1) kept ∙ sym (others-shift on lo) in
    let left : bit_and (others s.hits) on ≡ others (bit_or s.hits (others on)) =
    ap (bit_and (others s.hits)) (sym (others-twice on lo)) ∙ others-or s.hits s.near (others on) (ones_sub-lt 64 on) in
    record {
      fits = s.fits;
      word = mod-lt (on * 2 ^ 1) (pow_pos 64);
      hits = bit_or s.hits (others on);
      near = or_lt 64 s.hits (others on) s.near (ones_sub-lt 64 on);
      rest =
          ap (λ (n : ℕ). bit_and n on) s.rest ∙ and-and before (others s.hits) on s.fits (ones_sub-lt 64 s.hits) lo
          ∙ ap (bit_and before) left;
      scanning =
          subst₂ (λ (a b : ℕ). Scanning P st v (i + 1) a (bit_or s.hits b) (bit_or bad (get_or classes c 0))) shifted kept more;
    }

pub turning-all : (P : List ℕ) (st : ℕ) (v : Variant) (i before out missed bad : ℕ) → Turning P st v i before out missed bad → length v ≤ i
    → Turned P st (meant v ∷ []) before out missed
turning-all P st v i before out missed bad s l =
    record {
      word = s.word;
      hits = s.hits;
      near = s.near;
      rest = s.rest;
      words = scanning-all P st v i (others out) s.hits bad s.scanning l;
    }
