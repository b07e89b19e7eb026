-- Laws of the definitions in specs/, as the functions need them, and the theorems.
pub mod Answering
pub mod Reports
pub mod Theorems
