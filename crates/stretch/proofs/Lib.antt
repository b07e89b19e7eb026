-- Laws of the definitions in specs/, and the theorems about the calls.
pub mod Told
pub mod Theorems
pub mod Checks
-- reading
pub mod TextPlaces
pub mod ReadsAtPlace
pub mod ReadsOnward
