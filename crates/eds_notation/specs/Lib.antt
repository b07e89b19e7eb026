-- Texts in braces: what the bytes of the notation do, and what notation a text has.
pub mod Numbers
pub mod Notation
pub mod Reading
pub mod Filling
pub mod Cutting
pub mod Braces
pub mod Places
