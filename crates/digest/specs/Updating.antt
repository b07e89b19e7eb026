-- A hash of data that comes in pieces, byte by byte, as the RFC's program keeps it (appendix C.2): the state h after all blocks but the
-- last one, that block b, how many bytes c of it are there, and the offset t, the number of bytes before it, modulo 2 ^ 128. The rest of b
-- is zeros from its start on, where the RFC's program writes them at the end.
use Rattle.std.specs.Prelude.{ℕ, suc, ◌+◌, ◌%◌, ◌^◌, true, false, cond, List, replicate, nat_lt, slice_set}
use mathlib.Core.List.{foldl}
use Rattle.digest.specs.Words.{block_at, first32}
use Rattle.digest.specs.Compression.{F}
use Rattle.digest.specs.Blake2b.{initial}
use Rattle.digest.specs.declared.Hashing.{Hashing}

-- a hash with these h and t, and nothing in its block
abbrev pub emptied : List ℕ → ℕ → Hashing
emptied h t = record { h = h; b = replicate 128 0; c = 0; t = t }

-- blake2b_init: a hash of no bytes
unfoldable pub begun : Hashing
begun = emptied initial 0

-- the block is not the last one: it is compressed, and a new one begins
unfoldable pub passed : Hashing → Hashing
passed x = emptied (F x.h (block_at x.b 0) (x.t + 128) false) ((x.t + 128) % 2 ^ 128)

-- one byte more in its block
unfoldable pub put : Hashing → ℕ → Hashing
put x byte = record { h = x.h; b = slice_set x.b x.c byte; c = suc x.c; t = x.t }

-- blake2b_update by one byte: a full block is passed first
unfoldable pub with_byte : Hashing → ℕ → Hashing
with_byte x byte = put (cond (nat_lt x.c 128) x (passed x)) byte

-- blake2b_update
unfoldable pub with_bytes : Hashing → List ℕ → Hashing
with_bytes x s = foldl with_byte x s

-- blake2b_final: the digest, if no byte follows
unfoldable pub end_of : Hashing → List ℕ
end_of x = first32 (F x.h (block_at x.b 0) (x.t + x.c) true)
