-- Laws of the definitions in specs/.
pub mod Blocks
pub mod Codes
pub mod Rooms
pub mod SearchForms
pub mod FeedForms
pub mod FromForms
pub mod FirstForms
pub mod HitResults
pub mod Theorems
