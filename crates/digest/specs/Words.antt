-- Words of 64 bits as bytes, low byte first (2.4). A place past the end of a list holds 0: that is how data is padded (3.3).
use Rattle.std.specs.Prelude.{ℕ, zero, suc, ◌+◌, ◌*◌, ◌/◌, ◌%◌, ◌^◌, List, [], ◌∷◌, ◌++◌, slice_index}

-- v[i]
abbrev pub at : List ℕ → ℕ → ℕ
at v i = slice_index v i

-- the word whose eight bytes stand from place p on
unfoldable pub word_at : List ℕ → ℕ → ℕ
word_at s p =
    at s p + at s (p + 1) * 2 ^ 8 + at s (p + 2) * 2 ^ 16 + at s (p + 3) * 2 ^ 24
    + at s (p + 4) * 2 ^ 32 + at s (p + 5) * 2 ^ 40 + at s (p + 6) * 2 ^ 48 + at s (p + 7) * 2 ^ 56

-- m[0..15]: the sixteen words of the block that starts at place p
unfoldable pub block_at : List ℕ → ℕ → List ℕ
block_at s p =
    word_at s p ∷ word_at s (p + 8) ∷ word_at s (p + 16) ∷ word_at s (p + 24)
    ∷ word_at s (p + 32) ∷ word_at s (p + 40) ∷ word_at s (p + 48) ∷ word_at s (p + 56)
    ∷ word_at s (p + 64) ∷ word_at s (p + 72) ∷ word_at s (p + 80) ∷ word_at s (p + 88)
    ∷ word_at s (p + 96) ∷ word_at s (p + 104) ∷ word_at s (p + 112) ∷ word_at s (p + 120) ∷ []

-- the n lowest bytes of a word
unfoldable pub low_bytes : ℕ → ℕ → List ℕ
low_bytes zero x = []
low_bytes (suc n) x = x % 256 ∷ low_bytes n (x / 256)

-- the first 32 bytes of the word array h
unfoldable pub first32 : List ℕ → List ℕ
first32 h = low_bytes 8 (at h 0) ++ (low_bytes 8 (at h 1) ++ (low_bytes 8 (at h 2) ++ low_bytes 8 (at h 3)))
