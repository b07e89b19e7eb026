-- Laws of the definitions in specs/.
pub mod NextMarked
pub mod Standings
pub mod Firsts
pub mod Rows
pub mod Theorems
