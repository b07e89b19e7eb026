-- Searching and feeding: what the calls answer, what one variant's step is, and what a state carries.
pub mod Step
pub mod Masks
pub mod Words
pub mod Border
pub mod BorderStep
pub mod Method
pub mod Answers
pub mod Either
pub mod First
pub mod Chain
pub mod Carried
