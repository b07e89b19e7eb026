-- A hash over bytes, block by block: while its block has room the bytes go into it, and a full one is passed before the next byte.
use Rattle.std.proofs.Common.{◌≡◌, ℕ, suc, ◌+◌, ◌-◌, ◌<◌, ◌≤◌, ◌%◌, ◌^◌, Bool, false, cond, List, [], ◌∷◌, ◌++◌, length, take, drop, replicate, sym, refl, ap, ◌∙◌, ap₂, add-zero, zero-add, append_assoc, arith, length-drop, take-append-drop, length-take-le, get_or-take, drop-drop, le-ltb, lt-ltb}
use mathlib.Core.List.{foldl, foldl-append}
use lib.ListN.{length-replicate, get_or-append}
use lib.Seq.{sets, sets-eq}
use Rattle.digest.specs.Words.{at, block_at}
use Rattle.digest.specs.Compression.{F}
use Rattle.digest.specs.Updating.{emptied, passed, put, with_byte, with_bytes}
use Rattle.digest.specs.declared.Hashing.{Hashing}
use borrow.Rule.Slice.PartMut.{put_mid}
use Rattle.digest.proofs.Bytes.{block_same}
use Rattle.digest.proofs.Offsets.{F-offset}

-- one piece after another is both in one
pub over-over : (x : Hashing) (s b : List ℕ) → with_bytes (with_bytes x s) b ≡ with_bytes x (s ++ b)
unfolding with_bytes
over-over x s b = sym (foldl-append with_byte x s b)

-- what the test of the block's room decides
pub roomy : (x : Hashing) (v : ℕ) → x.c < 128 → with_byte x v ≡ put x v
unfolding with_byte
roomy x v l = ap (λ (r : Bool). put (cond r x (passed x)) v) (lt-ltb x.c 128 l)

pub full : (x : Hashing) (v : ℕ) → 128 ≤ x.c → with_byte x v ≡ put (passed x) v
unfolding with_byte
full x v l = ap (λ (r : Bool). put (cond r x (passed x)) v) (le-ltb x.c 128 l)

-- bytes for which the block has room
pub fills : (x : Hashing) (s : List ℕ) → length s ≤ 128 - x.c → with_bytes x s ≡ foldl put x s
unfolding with_bytes put
fills x [] l = refl
fills x (v ∷ s) l =
    let y : x.c < 128 = omega arith in
    let z : length s ≤ 128 - suc x.c = omega arith in
    ap (λ (w : Hashing). foldl with_byte w s) (roomy x v y) ∙ fills (put x v) s z

-- a full block is passed before the bytes, if there are any
passes : (x : Hashing) (s : List ℕ) → 128 ≤ x.c → 0 < length s → with_bytes x s ≡ with_bytes (passed x) s
unfolding with_bytes passed with_byte
passes x [] f l = absurd (let z : ⊥ = omega arith in z)
passes x (v ∷ s) f l = ap (λ (w : Hashing). foldl with_byte w s) (full x v f)

-- where bytes put into the block stand
pub puts : (x : Hashing) (s : List ℕ)
    → foldl put x s ≡ record { h = x.h; b = sets x.b x.c s; c = x.c + length s; t = x.t }
unfolding put
puts x [] = λ i. record { h = x.h; b = x.b; c = sym (add-zero x.c) i; t = x.t }
puts x (v ∷ s) =
    let e : suc x.c + length s ≡ x.c + suc (length s) = omega arith in
    puts (put x v) s ∙ (λ i. record { h = x.h; b = sets x.b x.c (v ∷ s); c = e i; t = x.t })

-- more bytes than the block has room for: those that fill it, and the rest after a full one is passed
pub past : (x : Hashing) (b : List ℕ) (n : ℕ) → n ≡ 128 - x.c → n < length b
    → with_bytes x b ≡ with_bytes (passed (foldl put x (take n b))) (drop n b)
past x b n e l =
    let piece = take n b in
    let rest = drop n b in
    let w : length piece ≡ n = length-take-le n b (let z : n ≤ length b = omega arith in z) in
    let r : length rest ≡ length b - n = length-drop n b in
    let f : length piece ≤ 128 - x.c = omega arith in
    let y : (foldl put x piece).c ≡ x.c + length piece = ap (λ (h : Hashing). h.c) (puts x piece) in
    let c : 128 ≤ (foldl put x piece).c = omega arith in
    ap (with_bytes x) (sym (take-append-drop n b)) ∙ sym (over-over x piece rest) ∙ ap (λ (h : Hashing). with_bytes h rest) (fills x piece f)
    ∙ passes (foldl put x piece) rest c (let z : 0 < length rest = omega arith in z)

-- a block put into zeros
block-put : (b : List ℕ) → 128 ≤ length b → block_at (sets (replicate 128 0) 0 (take 128 b)) 0 ≡ block_at b 0
block-put b l =
    let none : List ℕ = replicate 128 0 in
    let piece = take 128 b in
    let w : length piece ≡ 128 = length-take-le 128 b l in
    let n : length none ≡ 128 = length-replicate {A = ℕ} 128 0 in
    let fits : 0 + length piece ≤ length none = omega arith in
    let e : sets none 0 piece ≡ piece ++ drop (0 + length piece) none = sets-eq piece none 0 fits in
    block_same (sets none 0 piece) b 0 0
    (λ k h. ap (λ (i : ℕ). at (sets none 0 piece) i) (zero-add k) ∙ ap (λ (s : List ℕ). at s k) e
    ∙ get_or-append piece (drop (0 + length piece) none) 0 k (let z : k < length piece = omega arith in z)
    ∙ get_or-take 128 b k 0 h ∙ ap (at b) (sym (zero-add k)))

-- over one block of the bytes that is not the last one
pub turn : (b h : List ℕ) (t : ℕ) → 128 < length b
    → with_bytes (emptied h t) b
    ≡ with_bytes (emptied (F h (block_at b 0) (t + 128) false) ((t + 128) % 2 ^ 128)) (drop 128 b)
unfolding passed
turn b h t l =
    let y : 128 ≤ length b = omega arith in
    past (emptied h t) b 128 refl l
    ∙ ap (λ (x : Hashing). with_bytes (passed x) (drop 128 b)) (puts (emptied h t) (take 128 b))
    ∙ ap (λ (m : List ℕ). with_bytes (emptied (F h m (t + 128) false) ((t + 128) % 2 ^ 128)) (drop 128 b)) (block-put b y)

-- one block of the bytes passed, and the rest after it
pub next : (x : Hashing) (s : List ℕ) {h m r : List ℕ} → x ≡ emptied x.h x.t → 128 < length s
    → h ≡ F x.h m ((x.t + 128) % 2 ^ 128) false → m ≡ block_at s 0 → r ≡ drop 128 s
    → let y : Hashing = record { h = h; b = x.b; c = x.c; t = (x.t + 128) % 2 ^ 128 } in
    (y ≡ emptied y.h y.t) × (with_bytes y r ≡ with_bytes x s)
next x s {h = h} e l f w d =
    let t : ℕ = (x.t + 128) % 2 ^ 128 in
    let same : record { h = h; b = x.b; c = x.c; t = t } ≡ emptied h t = ap (λ (z : Hashing). record { h = h; b = z.b; c = z.c; t = t }) e in
    let g : h ≡ F x.h (block_at s 0) (x.t + 128) false = F-offset x.h (x.t + 128) false f w refl in (
      same,
      ap₂ with_bytes (same ∙ ap (λ (k : List ℕ). emptied k t) g) d ∙ sym (ap (λ (z : Hashing). with_bytes z s) e ∙ turn s x.h x.t l),
    )

-- the bytes that a call puts into the block
pub filled : (x : Hashing) (s : List ℕ) (k : ℕ) {ys : List ℕ} → x.c + length s ≤ length x.b → k ≡ length s → ys ≡ s
    → record { h = x.h; b = put_mid x.c k x.b ys; c = x.c + length s; t = x.t } ≡ foldl put x s
filled x s k {ys = ys} l n e =
    let rest : drop k (drop x.c x.b) ≡ drop (x.c + length s) x.b = ap (λ (i : ℕ). drop i (drop x.c x.b)) n ∙ drop-drop (length s) x.c x.b in
    let same : put_mid x.c k x.b ys ≡ sets x.b x.c s =
    ap₂ (λ (a b : List ℕ). take x.c x.b ++ (a ++ b)) e rest
    ∙ sym (sets-eq s x.b x.c l ∙ append_assoc (take x.c x.b) s (drop (x.c + length s) x.b)) in
    ap (λ (b : List ℕ). record { h = x.h; b = b; c = x.c + length s; t = x.t }) same ∙ sym (puts x s)
