-- The mixing function G (3.1) and the compression function F (3.2), with the constants of 2.6 and 2.7. A word is a number below 2 ^ 64, and
-- v[0..15], h[0..7] and m[0..15] are lists of words.
use Rattle.std.specs.Prelude.{ℕ, zero, suc, ◌+◌, ◌-◌, ◌*◌, ◌/◌, ◌%◌, ◌^◌, Bool, cond, List, [], ◌∷◌, map, bit_xor, slice_index_or, slice_set}
use Rattle.digest.specs.Words.{at}

-- x >>> n (2.3): (x >> n) ^ (x << (64 - n))
unfoldable pub rotated : ℕ → ℕ → ℕ
rotated x n = bit_xor (x / 2 ^ n) (x * 2 ^ (64 - n) % 2 ^ 64)

-- v[a] := (v[a] + v[b] + x) mod 2 ^ 64
unfoldable pub add : ℕ → ℕ → ℕ → List ℕ → List ℕ
add a b x v = slice_set v a ((at v a + at v b + x) % 2 ^ 64)

-- v[a] := (v[a] ^ v[b]) >>> n
unfoldable pub mix : ℕ → ℕ → ℕ → List ℕ → List ℕ
mix a b n v = slice_set v a (rotated (bit_xor (at v a) (at v b)) n)

-- the mixing function, with the rotations 32, 24, 16 and 63 (2.1)
unfoldable pub G : List ℕ → ℕ → ℕ → ℕ → ℕ → ℕ → ℕ → List ℕ
G v a b c d x y =
    let v1 = add a b x v in
    let v2 = mix d a 32 v1 in
    let v3 = add c d 0 v2 in
    let v4 = mix b c 24 v3 in
    let v5 = add a b y v4 in
    let v6 = mix d a 16 v5 in
    let v7 = add c d 0 v6 in
    mix b c 63 v7

-- one round of F; x holds the words m[s[0]] to m[s[15]]
unfoldable pub round : List ℕ → List ℕ → List ℕ
round v x =
    let v1 = G v 0 4 8 12 (at x 0) (at x 1) in
    let v2 = G v1 1 5 9 13 (at x 2) (at x 3) in
    let v3 = G v2 2 6 10 14 (at x 4) (at x 5) in
    let v4 = G v3 3 7 11 15 (at x 6) (at x 7) in
    let v5 = G v4 0 5 10 15 (at x 8) (at x 9) in
    let v6 = G v5 1 6 11 12 (at x 10) (at x 11) in
    let v7 = G v6 2 7 8 13 (at x 12) (at x 13) in
    G v7 3 4 9 14 (at x 14) (at x 15)

-- the message schedule (2.7)
abbrev pub SIGMA : List (List ℕ)
SIGMA =
    (0 ∷ 1 ∷ 2 ∷ 3 ∷ 4 ∷ 5 ∷ 6 ∷ 7 ∷ 8 ∷ 9 ∷ 10 ∷ 11 ∷ 12 ∷ 13 ∷ 14 ∷ 15 ∷ [])
    ∷ (14 ∷ 10 ∷ 4 ∷ 8 ∷ 9 ∷ 15 ∷ 13 ∷ 6 ∷ 1 ∷ 12 ∷ 0 ∷ 2 ∷ 11 ∷ 7 ∷ 5 ∷ 3 ∷ [])
    ∷ (11 ∷ 8 ∷ 12 ∷ 0 ∷ 5 ∷ 2 ∷ 15 ∷ 13 ∷ 10 ∷ 14 ∷ 3 ∷ 6 ∷ 7 ∷ 1 ∷ 9 ∷ 4 ∷ [])
    ∷ (7 ∷ 9 ∷ 3 ∷ 1 ∷ 13 ∷ 12 ∷ 11 ∷ 14 ∷ 2 ∷ 6 ∷ 5 ∷ 10 ∷ 4 ∷ 0 ∷ 15 ∷ 8 ∷ [])
    ∷ (9 ∷ 0 ∷ 5 ∷ 7 ∷ 2 ∷ 4 ∷ 10 ∷ 15 ∷ 14 ∷ 1 ∷ 11 ∷ 12 ∷ 6 ∷ 8 ∷ 3 ∷ 13 ∷ [])
    ∷ (2 ∷ 12 ∷ 6 ∷ 10 ∷ 0 ∷ 11 ∷ 8 ∷ 3 ∷ 4 ∷ 13 ∷ 7 ∷ 5 ∷ 15 ∷ 14 ∷ 1 ∷ 9 ∷ [])
    ∷ (12 ∷ 5 ∷ 1 ∷ 15 ∷ 14 ∷ 13 ∷ 4 ∷ 10 ∷ 0 ∷ 7 ∷ 6 ∷ 3 ∷ 9 ∷ 2 ∷ 8 ∷ 11 ∷ [])
    ∷ (13 ∷ 11 ∷ 7 ∷ 14 ∷ 12 ∷ 1 ∷ 3 ∷ 9 ∷ 5 ∷ 0 ∷ 15 ∷ 4 ∷ 8 ∷ 6 ∷ 2 ∷ 10 ∷ [])
    ∷ (6 ∷ 15 ∷ 14 ∷ 9 ∷ 11 ∷ 3 ∷ 0 ∷ 8 ∷ 12 ∷ 2 ∷ 13 ∷ 7 ∷ 1 ∷ 4 ∷ 10 ∷ 5 ∷ [])
    ∷ (10 ∷ 2 ∷ 8 ∷ 4 ∷ 7 ∷ 6 ∷ 1 ∷ 5 ∷ 15 ∷ 11 ∷ 9 ∷ 14 ∷ 3 ∷ 12 ∷ 13 ∷ 0 ∷ [])
    ∷ []

-- m[s[0]] to m[s[15]], where s is SIGMA[i mod 10]
unfoldable pub scheduled : List ℕ → ℕ → List ℕ
scheduled m i = map (at m) (slice_index_or SIGMA (i % 10) [])

-- rounds 0 to n - 1
unfoldable pub rounds : ℕ → List ℕ → List ℕ → List ℕ
rounds zero m v = v
rounds (suc i) m v = round (rounds i m v) (scheduled m i)

-- the initialization vector (2.6)
abbrev pub IV : List ℕ
IV =
    0x6a09e667f3bcc908 ∷ 0xbb67ae8584caa73b ∷ 0x3c6ef372fe94f82b ∷ 0xa54ff53a5f1d36f1
    ∷ 0x510e527fade682d1 ∷ 0x9b05688c2b3e6c1f ∷ 0x1f83d9abfb41bd6b ∷ 0x5be0cd19137e2179 ∷ []

-- v[14]: IV[6], all its bits inverted in the last block
unfoldable pub flagged : Bool → ℕ
flagged f = cond f (bit_xor (at IV 6) (2 ^ 64 - 1)) (at IV 6)

-- the work vector v: h, then IV with the offset t in v[12] and v[13] and the flag f in v[14]
unfoldable pub work_vector : List ℕ → ℕ → Bool → List ℕ
work_vector h t f =
    at h 0 ∷ at h 1 ∷ at h 2 ∷ at h 3 ∷ at h 4 ∷ at h 5 ∷ at h 6 ∷ at h 7
    ∷ at IV 0 ∷ at IV 1 ∷ at IV 2 ∷ at IV 3
    ∷ bit_xor (t % 2 ^ 64) (at IV 4) ∷ bit_xor (t / 2 ^ 64 % 2 ^ 64) (at IV 5) ∷ flagged f ∷ at IV 7 ∷ []

-- h[i] ^ v[i] ^ v[i + 8]
unfoldable pub halves_xored : List ℕ → List ℕ → List ℕ
halves_xored h v = map (λ i. bit_xor (bit_xor (at h i) (at v i)) (at v (i + 8))) (0 ∷ 1 ∷ 2 ∷ 3 ∷ 4 ∷ 5 ∷ 6 ∷ 7 ∷ [])

-- the compression function: twelve rounds (2.1)
unfoldable pub F : List ℕ → List ℕ → ℕ → Bool → List ℕ
F h m t f = halves_xored h (rounds 12 m (work_vector h t f))
