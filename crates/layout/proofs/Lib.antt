-- Laws of the definitions in specs/, and the theorems about the bytes.
pub mod Theorems
-- numbers, parts and raised letters in the bytes
pub mod Stands
pub mod Overs
pub mod Raised
-- the pieces of a walk: a variant's head, the test for repetition, the verdict, the frame
pub mod Heads
pub mod Skips
pub mod RepeatsInBytes
pub mod Verdicts
pub mod Prints
pub mod Walks
pub mod Frames
-- walks over the variants of a segment and the segments of a stretch
pub mod Units
pub mod Segments
pub mod Walking
pub mod Stretches
pub mod Going
-- bytes and texts are inverse
pub mod Rows
pub mod Lengths
pub mod Standing
pub mod Decoding
pub mod Encoding
pub mod Refusals
