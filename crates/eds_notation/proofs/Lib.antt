-- What is proved of the calls, and the laws of the definitions in specs/.
pub mod Cuts
pub mod Fillings
pub mod Kept
pub mod Lines
pub mod ReadsBack
pub mod ReadsWhole
pub mod Repeats
pub mod Shows
pub mod Theorems
