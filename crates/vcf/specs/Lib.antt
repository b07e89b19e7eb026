-- The stretch of a window, made from a variant file.
pub mod Pieces
pub mod Records
pub mod Building
pub mod Tallies
pub mod Steps
pub mod Surveys
pub mod Haplotypes
pub mod Emission
pub mod Measures
