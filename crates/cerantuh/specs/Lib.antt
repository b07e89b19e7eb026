-- What the C forms answer.
pub mod Forms
