pub mod Told
pub mod Theorems
pub mod Records
pub mod Sights
pub mod Lists
pub mod Calls
