-- BLAKE2b with nn = 32 and kk = 0 (3.3). A block has bb = 128 bytes, and block d[i] of the data s starts at place i * 128.
use Rattle.std.specs.Prelude.{ℕ, zero, suc, ◌-◌, ◌*◌, ◌/◌, true, false, List, [], ◌∷◌, length, bit_xor}
use Rattle.digest.specs.Words.{at, block_at, first32}
use Rattle.digest.specs.Compression.{IV, F}

-- h at the start: IV, and h[0] := h[0] ^ 0x01010000 ^ (kk << 8) ^ nn
unfoldable pub initial : List ℕ
initial =
    bit_xor (at IV 0) 0x01010020 ∷ at IV 1 ∷ at IV 2 ∷ at IV 3 ∷ at IV 4 ∷ at IV 5 ∷ at IV 6 ∷ at IV 7 ∷ []

-- h after the first i blocks, none of them the last: h := F(h, d[i], (i + 1) * bb, FALSE)
unfoldable pub after : ℕ → List ℕ → List ℕ
after zero s = initial
after (suc i) s = F (after i s) (block_at s (i * 128)) (suc i * 128) false

-- dd - 1, the number of blocks before the last one, for ll bytes: no data is one block
unfoldable pub before : ℕ → ℕ
before ll = (ll - 1) / 128

-- the digest: h := F(h, d[dd - 1], ll, TRUE), and of it the first nn bytes
unfoldable pub blake2b256 : List ℕ → List ℕ
blake2b256 s =
    let i = before (length s) in
    first32 (F (after i s) (block_at s (i * 128)) (length s) true)
