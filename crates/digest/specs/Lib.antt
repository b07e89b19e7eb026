-- What a reader must believe: BLAKE2b of RFC 7693 with a digest of 32 bytes and no key (nn = 32, kk = 0). Numbers in brackets are
-- sections of the RFC. Blake2b has the digest; Updating has the hash of data that comes in pieces.
pub mod Words
pub mod Compression
pub mod Blake2b
pub mod Updating
