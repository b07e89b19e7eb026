-- The bytes of a stretch and their meaning, by document 01 ("Bytes of a stretch").
pub mod Bytes
pub mod Pieces
pub mod Reading
pub mod Prints
pub mod Cursor
pub mod Walk
pub mod Encoding
pub mod Skips
pub mod Standing
pub mod Sizes
