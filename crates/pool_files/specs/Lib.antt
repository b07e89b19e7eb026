-- What a clinic sends: a reference and a variant file, read in pieces.
pub mod Words
pub mod Reference
pub mod Short
pub mod Room
