-- What a hash stands for after some bytes, and that its end is then their digest.
use Rattle.std.proofs.Common.{◌≡◌, ℕ, zero, suc, ◌+◌, ◌*◌, ◌%◌, ◌^◌, ◌<◌, ◌≤◌, Bool, true, false, List, [], ◌∷◌, ◌++◌, length, set, replicate, sym, refl, ap, ◌∙◌, subst, ap₂, append-nil, zero-add, arith, lit<, length-append, length-set, get_or-set_other, get_or-set_same}
use mathlib.Core.Logic.{by_cases}
use native.Mathlib.Nat.{mod-add-mod}
use native.Mathlib.Decide.{dec_lt, ℕ_discrete}
use lib.ListN.{get_or-append, get_or-eq_default}
use lib.Seq.{append_snoc, get_or-append_seam}
use Rattle.digest.specs.Words.{at, block_at, first32}
use Rattle.digest.specs.Compression.{F}
use Rattle.digest.specs.Blake2b.{after, before, blake2b256}
use Rattle.digest.specs.Updating.{begun, passed, put, with_byte, with_bytes, end_of}
use Rattle.digest.specs.declared.Hashing.{Hashing}
use Rattle.digest.proofs.Bytes.{block_same}
use Rattle.digest.proofs.Offsets.{F-wraps}
use Rattle.digest.proofs.Updates.{roomy, full}

-- the hash x has passed the first i blocks of s and holds the rest
pub record Holds (i : ℕ) (x : Hashing) (s : List ℕ) : Type 0 where
  pub state : x.h ≡ after i s
  pub sized : length s ≡ i * 128 + x.c
  pub wide : length x.b ≡ 128
  pub holds : (k : ℕ) → at x.b k ≡ at s (i * 128 + k)
  pub counts : x.t ≡ i * 128 % 2 ^ 128

-- it holds the last block, and has passed all others
abbrev pub Stands : Hashing → List ℕ → Type 0
Stands x s = Holds (before (length s)) x s

-- blocks that are all there are not changed by what follows them
after-append : (i : ℕ) (s b : List ℕ) → i * 128 ≤ length s → after i (s ++ b) ≡ after i s
unfolding after
after-append zero s b l = refl
after-append (suc i) s b l =
    let y : i * 128 ≤ length s = omega arith in
    let w : block_at (s ++ b) (i * 128) ≡ block_at s (i * 128) =
    block_same (s ++ b) s (i * 128) (i * 128)
    (λ k h. get_or-append s b 0 (i * 128 + k) (let z : i * 128 + k < length s = omega arith in z))
    in
    ap₂ (λ (x m : List ℕ). F x m (suc i * 128) false) (after-append i s b y) w

zeros : (n k : ℕ) → ◌≡◌ {A = ℕ} (at (replicate n 0) k) 0
zeros zero k = refl
zeros (suc n) zero = refl
zeros (suc n) (suc k) = zeros n k

pub stands-begun : Stands begun []
unfolding before after begun
stands-begun = record { state = refl; sized = refl; wide = refl; holds = λ k. zeros 128 k; counts = refl }

-- a byte that is appended changes no other place
other : (s : List ℕ) (v k : ℕ) → (k ≡ length s → ⊥) → at (s ++ v ∷ []) k ≡ at s k
other s v k n =
    let len : length (s ++ v ∷ []) ≡ length s + 1 = length-append s (v ∷ []) in
    by_cases (dec_lt k (length s))
    (λ (l : k < length s). get_or-append s (v ∷ []) 0 k l)
    (λ (l : k < length s → ⊥).
    get_or-eq_default (s ++ v ∷ []) 0 (let z : length (s ++ v ∷ []) ≤ k = omega (arith, n) in z)
    ∙ sym (get_or-eq_default s 0 (let z : length s ≤ k = omega arith in z)))

module _ (i : ℕ) (x : Hashing) (s : List ℕ) (a : Holds i x s) where
  -- the block that x holds is block i
  same : block_at x.b 0 ≡ block_at s (i * 128)
  same = block_same x.b s 0 (i * 128) (λ k l. ap (at x.b) (zero-add k) ∙ a.holds k)

  -- the offset n bytes further on, as F reads it
  counted : (n : ℕ) → (x.t + n) % 2 ^ 128 ≡ (i * 128 + n) % 2 ^ 128
  counted n = ap (λ (t : ℕ). (t + n) % 2 ^ 128) a.counts ∙ mod-add-mod (i * 128) (2 ^ 128) n

  F-counted : (n : ℕ) (h m : List ℕ) (f : Bool) → F h m (x.t + n) f ≡ F h m (i * 128 + n) f
  F-counted n h m f =
      sym (F-wraps h m (x.t + n) f) ∙ ap (λ (t : ℕ). F h m t f) (counted n) ∙ F-wraps h m (i * 128 + n) f

  -- one byte more, for which the block has room
  put_holds : (v : ℕ) → x.c < 128 → Holds i (put x v) (s ++ v ∷ [])
  unfolding put
  put_holds v l =
      let b = s ++ v ∷ [] in
      let len : length b ≡ length s + 1 = length-append s (v ∷ []) in
      record {
        state = a.state ∙ sym (after-append i s (v ∷ []) (let z : i * 128 ≤ length s = omega (arith, a.sized) in z));
        sized = omega (arith, a.sized, len);
        wide = length-set x.b x.c v ∙ a.wide;
        holds = λ k. by_cases (ℕ_discrete k x.c)
            (λ (e : k ≡ x.c).
            let y : x.c < length x.b = omega (arith, a.wide) in
            let w : length s ≡ i * 128 + k = omega (arith, a.sized) in
            ap (at (set x.b x.c v)) e ∙ get_or-set_same x.b x.c v 0 y
            ∙ sym (get_or-append_seam s v [] 0) ∙ ap (at b) w)
            (λ (e : k ≡ x.c → ⊥).
            get_or-set_other x.b x.c k v 0 e ∙ a.holds k ∙ sym (other s v (i * 128 + k) (λ q. e (omega (arith, a.sized)))));
        counts = a.counts;
      }

  -- a full block passed
  pass-holds : x.c ≡ 128 → Holds (suc i) (passed x) s
  unfolding passed after
  pass-holds e =
      let z : i * 128 + 128 ≡ suc i * 128 = omega arith in
      record {
        state =
            F-counted 128 x.h (block_at x.b 0) false
            ∙ ap (λ (t : ℕ). F x.h (block_at x.b 0) t false) z
            ∙ ap₂ (λ (h m : List ℕ). F h m (suc i * 128) false) a.state same;
        sized = omega (arith, a.sized);
        wide = refl;
        holds = λ k. zeros 128 k ∙ sym (get_or-eq_default s 0 (let w : length s ≤ suc i * 128 + k = omega (arith, a.sized) in w));
        counts = counted 128 ∙ ap (λ (t : ℕ). t % 2 ^ 128) z;
      }

module _ (x : Hashing) (s : List ℕ) (a : Stands x s) where
  -- it stands for one byte more, whether its block has room or is full
  stands-byte : (v : ℕ) → Stands (with_byte x v) (s ++ v ∷ [])
  unfolding before passed
  stands-byte v =
      let n = before (length s) in
      let len : length (s ++ v ∷ []) ≡ length s + 1 = length-append s (v ∷ []) in
      by_cases (dec_lt x.c 128)
      (λ (l : x.c < 128).
      let e : n ≡ before (length (s ++ v ∷ [])) = omega (arith, a.sized, len) in
      subst (λ (i : ℕ). Holds i (with_byte x v) (s ++ v ∷ [])) e
      (subst (λ (y : Hashing). Holds n y (s ++ v ∷ [])) (sym (roomy x v l)) (put_holds n x s a v l)))
      (λ (l : x.c < 128 → ⊥).
      let c : x.c ≡ 128 = omega (arith, a.sized) in
      let y : 128 ≤ x.c = omega arith in
      let e : suc n ≡ before (length (s ++ v ∷ [])) = omega (arith, a.sized, len) in
      let h : Holds (suc n) (passed x) s = pass-holds n x s a c in
      subst (λ (i : ℕ). Holds i (with_byte x v) (s ++ v ∷ [])) e
      (subst (λ (y : Hashing). Holds (suc n) y (s ++ v ∷ [])) (sym (full x v y))
      (put_holds (suc n) (passed x) s h v (lit< tt))))

  -- its end is the digest of what it stands for
  pub ends : end_of x ≡ blake2b256 s
  unfolding end_of blake2b256
  ends =
      let i = before (length s) in
      ap first32
      (F-counted i x s a x.c x.h (block_at x.b 0) true
      ∙ ap (λ (t : ℕ). F x.h (block_at x.b 0) t true) (sym a.sized)
      ∙ ap₂ (λ (h m : List ℕ). F h m (length s) true) a.state (same i x s a))

-- it stands for more bytes after those for which it stood
pub stands-over : (x : Hashing) (s b : List ℕ) → Stands x s → Stands (with_bytes x b) (s ++ b)
unfolding with_bytes
stands-over x s [] a = rw append-nil a
stands-over x s (v ∷ b) a =
    let y = stands-over (with_byte x v) (s ++ v ∷ []) b (stands-byte x s a v) in
    rw append_snoc at y
