-- Laws of the definitions in specs/.
pub mod Moves
pub mod Sweeps
pub mod Asks
pub mod Nights
pub mod Rounds
pub mod Runs
pub mod Quiet
pub mod Clears
pub mod Theorems
