-- Document 01's starred examples.
pub mod Examples
