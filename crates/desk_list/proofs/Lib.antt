-- Laws of the definitions in specs/.
pub mod Skips
pub mod Values
pub mod Entries
pub mod Checks
pub mod Theorems
