-- Laws of the definitions in specs/.
pub mod Rooms
pub mod Shorts
pub mod Takes
pub mod Names
pub mod Touching
pub mod Theorems
