-- G step by step, and a round, which is eight times G.
use Rattle.std.proofs.Common.{◌≡◌, ℕ, zero, suc, ◌+◌, ◌-◌, ◌*◌, ◌/◌, ◌%◌, ◌^◌, ◌<◌, ◌≤◌, List, [], ◌∷◌, length, map, set, sym, ap, ◌∙◌, ap₂, subst, add-zero, add_comm, mod-lt, arith, lit<, lit≤}
use Rattle.std.proofs.Math.Nat.{mul-mod_left}
use Rattle.std.specs.Int.{w64, rotate_right}
use Rattle.std.specs.Int.Bits.{bit_xor, bit_or, or_shifted_r, xor_shifted}
use Rattle.std.proofs.lemmas.Nat.{xor_comm, xor_lt, shr_below, shl-shr, mod-pow-add}
use Rattle.std.proofs.lemmas.List.{get_or-map}
use Rattle.digest.specs.Words.{at}
use Rattle.digest.specs.Compression.{rotated, add, mix, G, round}

-- a rotation joins two words that have no bit in common, by or as by xor
turned : (x n j : ℕ) → 64 ≡ n + j → x < 2 ^ 64 → bit_or (x / 2 ^ n) (x * 2 ^ j % 2 ^ 64) ≡ bit_xor (x / 2 ^ n) (x * 2 ^ j % 2 ^ 64)
turned x n j e fits =
    let m : ℕ = x % 2 ^ n in
    let q : ℕ = x / 2 ^ n in
    let none : x * 2 ^ j % 2 ^ j ≡ 0 = mul-mod_left x (2 ^ j) in
    let all : x * 2 ^ j / 2 ^ j ≡ x = shl-shr x j in
    let low : x * 2 ^ j % 2 ^ 64 ≡ m * 2 ^ j =
    ap (λ (k : ℕ). x * 2 ^ j % 2 ^ k) e ∙ mod-pow-add (x * 2 ^ j) n j
    ∙ ap₂ (λ (y z : ℕ). y % 2 ^ n * 2 ^ j + z) all none ∙ add-zero (m * 2 ^ j) in
    let high : q < 2 ^ j = shr_below x j n (subst (λ (k : ℕ). x < 2 ^ k) (e ∙ add_comm n j) fits) in
    rw low (or_shifted_r m j q high ∙ sym (xor_comm q (m * 2 ^ j) ∙ xor_shifted m j q high))

-- the words are below 2 ^ 64
abbrev Fit : List ℕ → Type 0
Fit v = (i : ℕ) → at v i < 2 ^ 64

fit-set : (v : List ℕ) (a : ℕ) {s : ℕ} → s < 2 ^ 64 → Fit v → Fit (set v a s)
fit-set [] a p f i = f i
fit-set (w ∷ v) zero p f zero = p
fit-set (w ∷ v) zero p f (suc i) = f (suc i)
fit-set (w ∷ v) (suc a) p f zero = f 0
fit-set (w ∷ v) (suc a) p f (suc i) = fit-set v a p (λ k. f (suc k)) i

added : (v : List ℕ) (a b x : ℕ) → set v a (((at v a + at v b) % 2 ^ 64 + x) % 2 ^ 64) ≡ add a b x v
unfolding add
added v a b x = ap (set v a) (let z : ((at v a + at v b) % 2 ^ 64 + x) % 2 ^ 64 ≡ (at v a + at v b + x) % 2 ^ 64 = omega arith in z)

added-none : (v : List ℕ) (a b : ℕ) → set v a ((at v a + at v b) % 2 ^ 64) ≡ add a b 0 v
unfolding add
added-none v a b = ap (λ (s : ℕ). set v a (s % 2 ^ 64)) (sym (add-zero (at v a + at v b)))

mixed : (v : List ℕ) (a b n : ℕ) {r : ℕ} → n ≤ 63 → 0 < n → Fit v → r ≡ rotate_right w64 (bit_xor (at v a) (at v b)) n → set v a r ≡ mix a b n v
unfolding mix rotated
mixed v a b n l p f e =
    let x : ℕ = bit_xor (at v a) (at v b) in
    let small : n % 64 ≡ n = omega arith in
    let other : (64 - n) % 64 ≡ 64 - n = omega arith in
    let whole : 64 ≡ n + (64 - n) = omega arith in
    ap (set v a)
    (e ∙ ap₂ (λ (i j : ℕ). bit_or (x / 2 ^ i) (x * 2 ^ j % 2 ^ 64)) small (ap (λ (k : ℕ). (64 - k) % 64) small ∙ other)
    ∙ turned x n (64 - n) whole (xor_lt 64 (at v a) (at v b) (f a) (f b)))

-- the lines of G one after another: the words that it rotates come from a call
pub G-of : (v : List ℕ) (a b c d x y : ℕ) {r2 r4 r6 r8 : ℕ} → Fit v → r2 < 2 ^ 64 → r4 < 2 ^ 64 → r6 < 2 ^ 64
    → let v1 = set v a (((at v a + at v b) % 2 ^ 64 + x) % 2 ^ 64) in r2 ≡ rotate_right w64 (bit_xor (at v1 d) (at v1 a)) 32
    → let v2 = set v1 d r2 in
    let v3 = set v2 c ((at v2 c + at v2 d) % 2 ^ 64) in r4 ≡ rotate_right w64 (bit_xor (at v3 b) (at v3 c)) 24
    → let v4 = set v3 b r4 in
    let v5 = set v4 a (((at v4 a + at v4 b) % 2 ^ 64 + y) % 2 ^ 64) in r6 ≡ rotate_right w64 (bit_xor (at v5 d) (at v5 a)) 16
    → let v6 = set v5 d r6 in
    let v7 = set v6 c ((at v6 c + at v6 d) % 2 ^ 64) in r8 ≡ rotate_right w64 (bit_xor (at v7 b) (at v7 c)) 63
    → set v7 b r8 ≡ G v a b c d x y
unfolding G
G-of v a b c d x y {r2 = r2} {r4 = r4} {r6 = r6} f p2 p4 p6 e2 e4 e6 e8 =
    let wraps = λ (n : ℕ). mod-lt n {m = 2 ^ 64} (lit< tt) in
    let v1 = set v a (((at v a + at v b) % 2 ^ 64 + x) % 2 ^ 64) in
    let v2 = set v1 d r2 in
    let v3 = set v2 c ((at v2 c + at v2 d) % 2 ^ 64) in
    let v4 = set v3 b r4 in
    let v5 = set v4 a (((at v4 a + at v4 b) % 2 ^ 64 + y) % 2 ^ 64) in
    let v6 = set v5 d r6 in
    let v7 = set v6 c ((at v6 c + at v6 d) % 2 ^ 64) in
    let f1 : Fit v1 = fit-set v a (wraps ((at v a + at v b) % 2 ^ 64 + x)) f in
    let f3 : Fit v3 = fit-set v2 c (wraps (at v2 c + at v2 d)) (fit-set v1 d p2 f1) in
    let f5 : Fit v5 = fit-set v4 a (wraps ((at v4 a + at v4 b) % 2 ^ 64 + y)) (fit-set v3 b p4 f3) in
    let f7 : Fit v7 = fit-set v6 c (wraps (at v6 c + at v6 d)) (fit-set v5 d p6 f5) in
    mixed v7 b c 63 (lit≤ tt) (lit< tt) f7 e8
    ∙ ap (mix b c 63) (added-none v6 c d
    ∙ ap (add c d 0) (mixed v5 d a 16 (lit≤ tt) (lit< tt) f5 e6
    ∙ ap (mix d a 16) (added v4 a b y
    ∙ ap (add a b y) (mixed v3 b c 24 (lit≤ tt) (lit< tt) f3 e4
    ∙ ap (mix b c 24) (added-none v2 c d
    ∙ ap (add c d 0) (mixed v1 d a 32 (lit≤ tt) (lit< tt) f1 e2
    ∙ ap (mix d a 32) (added v a b x)))))))

-- a round takes the words of a block in the order s
pub round-of : (m s v : List ℕ) {v1 v2 v3 v4 v5 v6 v7 v8 : List ℕ} → length s ≡ 16
    → v1 ≡ G v 0 4 8 12 (at m (at s 0)) (at m (at s 1))
    → v2 ≡ G v1 1 5 9 13 (at m (at s 2)) (at m (at s 3))
    → v3 ≡ G v2 2 6 10 14 (at m (at s 4)) (at m (at s 5))
    → v4 ≡ G v3 3 7 11 15 (at m (at s 6)) (at m (at s 7))
    → v5 ≡ G v4 0 5 10 15 (at m (at s 8)) (at m (at s 9))
    → v6 ≡ G v5 1 6 11 12 (at m (at s 10)) (at m (at s 11))
    → v7 ≡ G v6 2 7 8 13 (at m (at s 12)) (at m (at s 13))
    → v8 ≡ G v7 3 4 9 14 (at m (at s 14)) (at m (at s 15))
    → v8 ≡ round v (map (at m) s)
unfolding round
round-of m s v long e1 e2 e3 e4 e5 e6 e7 e8 =
    let x = map (at m) s in
    let w : (k : ℕ) → k < 16 → at m (at s k) ≡ at x k = λ k l. sym (get_or-map (at m) s k 0 0 (let z : k < length s = omega arith in z)) in
    e8 ∙ ap₂ (G _ 3 4 9 14) (w 14 (lit< tt)) (w 15 (lit< tt))
    ∙ ap (λ (u : List ℕ). G u 3 4 9 14 (at x 14) (at x 15)) (e7 ∙ ap₂ (G _ 2 7 8 13) (w 12 (lit< tt)) (w 13 (lit< tt))
    ∙ ap (λ (u : List ℕ). G u 2 7 8 13 (at x 12) (at x 13)) (e6 ∙ ap₂ (G _ 1 6 11 12) (w 10 (lit< tt)) (w 11 (lit< tt))
    ∙ ap (λ (u : List ℕ). G u 1 6 11 12 (at x 10) (at x 11)) (e5 ∙ ap₂ (G _ 0 5 10 15) (w 8 (lit< tt)) (w 9 (lit< tt))
    ∙ ap (λ (u : List ℕ). G u 0 5 10 15 (at x 8) (at x 9)) (e4 ∙ ap₂ (G _ 3 7 11 15) (w 6 (lit< tt)) (w 7 (lit< tt))
    ∙ ap (λ (u : List ℕ). G u 3 7 11 15 (at x 6) (at x 7)) (e3 ∙ ap₂ (G _ 2 6 10 14) (w 4 (lit< tt)) (w 5 (lit< tt))
    ∙ ap (λ (u : List ℕ). G u 2 6 10 14 (at x 4) (at x 5)) (e2 ∙ ap₂ (G _ 1 5 9 13) (w 2 (lit< tt)) (w 3 (lit< tt))
    ∙ ap (λ (u : List ℕ). G u 1 5 9 13 (at x 2) (at x 3)) (e1 ∙ ap₂ (G _ 0 4 8 12) (w 0 (lit< tt)) (w 1 (lit< tt)))))))))
