-- Laws of the definitions in specs/.
pub mod Inputs
pub mod Putting
pub mod FileNames
pub mod Digits
pub mod Marked
pub mod Screens
pub mod Named
pub mod Answering
pub mod Enough
pub mod Theorems
