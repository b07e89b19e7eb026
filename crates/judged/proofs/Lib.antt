-- The theorem of the starred examples.
pub mod Passes
