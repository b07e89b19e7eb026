-- Cards as the calls have them.
pub mod Held
pub mod RowStep
pub mod Rows
pub mod Cards
pub mod Answers
