-- Laws of the definitions in specs/, and the theorems about them.
pub mod Offsets
pub mod Bytes
pub mod Runs
pub mod Round
pub mod Examples
pub mod Updates
pub mod Standing
pub mod Theorems
