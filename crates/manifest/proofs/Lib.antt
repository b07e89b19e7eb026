-- Laws of the definitions in specs/.
pub mod Sorts
pub mod Entries
pub mod Lines
pub mod Finding
pub mod Hex
pub mod Seals
pub mod Plain
pub mod ReadBack
pub mod Whole
pub mod Counts
pub mod Theorems
